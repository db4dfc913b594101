pub mod Kept
pub mod Settling
