pub mod Reading
pub mod Long
pub mod Moves
pub mod Pushed
pub mod Short
