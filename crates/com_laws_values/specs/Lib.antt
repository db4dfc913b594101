pub mod Held
pub mod Broken
