pub mod Constants
pub mod Digits
pub mod Leading
pub mod Passing
pub mod Rows
pub mod Sections
pub mod Words
