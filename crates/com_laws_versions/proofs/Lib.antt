pub mod Formed
pub mod Histories
