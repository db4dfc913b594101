pub mod Whole
pub mod Strict
pub mod Reports
pub mod Stricts
pub mod Bites
pub mod Fixes
pub mod Schedule
pub mod One
