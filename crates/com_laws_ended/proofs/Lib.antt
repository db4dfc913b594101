pub mod Resting
pub mod Ticking
pub mod Going
pub mod Bites
