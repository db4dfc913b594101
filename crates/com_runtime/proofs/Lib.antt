pub mod Runs
pub mod Taken
pub mod Choices
pub mod Counting
pub mod Resting
pub mod Limits
