pub mod Counting
pub mod Changes
pub mod Evens
pub mod Ends
