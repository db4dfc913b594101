pub mod Board
pub mod Lanes
pub mod Stacks
pub mod Tracks
