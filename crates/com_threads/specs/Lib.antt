pub mod Commits
pub mod Histories
pub mod Turns
pub mod Drives
pub mod Runs
