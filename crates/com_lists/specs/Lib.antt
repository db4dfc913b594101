pub mod Linked
pub mod Chain
