pub mod Arrows
pub mod Boxes
pub mod Ends
pub mod Escapes
pub mod Labels
pub mod Rows
pub mod Sections
pub mod Widths
