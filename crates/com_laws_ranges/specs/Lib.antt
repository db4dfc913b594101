pub mod Bounds
pub mod Taken
pub mod Shapes
pub mod Works
pub mod Broken
