pub mod Naming
pub mod Ending
mod Summed
