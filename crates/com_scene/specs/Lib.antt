pub mod Actors
pub mod Kept
pub mod Prepared
pub mod Ranges
pub mod Rooms
pub mod Scenes
pub mod Seen
pub mod Steps
