pub mod Words
pub mod Holds
pub mod Fields
pub mod Calls
pub mod Statements
