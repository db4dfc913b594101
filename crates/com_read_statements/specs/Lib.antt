pub mod Keywords
pub mod Calls
pub mod Statements
