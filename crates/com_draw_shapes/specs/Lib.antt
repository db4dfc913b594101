pub mod Arrows
pub mod Boxes
pub mod Changes
pub mod Effects
pub mod Places
pub mod Sections
