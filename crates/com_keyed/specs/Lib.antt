pub mod Indices
pub mod Linked
