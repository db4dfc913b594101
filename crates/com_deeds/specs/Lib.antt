pub mod Seen
pub mod Naming
