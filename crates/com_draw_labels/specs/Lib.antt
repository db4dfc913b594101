pub mod Labels
pub mod Looks
pub mod Reasons
pub mod Words
