pub mod Boxes
pub mod Pieces
