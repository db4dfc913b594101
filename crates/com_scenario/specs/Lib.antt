pub mod Scenarios
pub mod Sizes
