pub mod Counted
pub mod Passing
pub mod Depths
