pub mod Stricter
pub mod Broken
pub mod OneHistory
