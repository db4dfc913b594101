pub mod Spelling
pub mod Forming
pub mod Reading
