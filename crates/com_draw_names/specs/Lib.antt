pub mod Failures
pub mod Filters
pub mod Names
pub mod Values
