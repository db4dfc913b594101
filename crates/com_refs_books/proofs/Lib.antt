pub mod Sums
pub mod Evens
