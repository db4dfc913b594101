pub mod Lines
pub mod Dispatching
