pub mod Calls
pub mod Ends
pub mod Phrases
pub mod Stories
