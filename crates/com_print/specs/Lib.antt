pub mod Spelled
pub mod Words
pub mod Ranges
pub mod StatementWords
pub mod Standing
pub mod Reads
