pub mod Enough
pub mod Standing
pub mod Covered
pub mod Counted
pub mod Bites
