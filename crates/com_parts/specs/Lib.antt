pub mod Tables
pub mod Whole
pub mod Fits
pub mod Changes
pub mod Begins
