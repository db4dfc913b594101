pub mod Boxes
pub mod Lanes
pub mod Rows
