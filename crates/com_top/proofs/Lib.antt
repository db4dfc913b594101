pub mod Explained
pub mod Loaded
pub mod Replayed
pub mod Sound
