pub mod Calls
pub mod Books
pub mod Entries
pub mod Fits
pub mod Moving
pub mod Owners
