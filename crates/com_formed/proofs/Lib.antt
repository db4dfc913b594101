pub mod Walks
pub mod Same
pub mod Retries
pub mod Whole
