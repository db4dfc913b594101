pub mod Answers
pub mod Broken
