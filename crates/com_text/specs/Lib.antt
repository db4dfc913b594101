pub mod Words
pub mod Scanning
pub mod Tokens
pub mod Cutting
pub mod Sorts
pub mod Kept
pub mod Runs
