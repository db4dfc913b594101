pub mod Whole
pub mod Exactly
