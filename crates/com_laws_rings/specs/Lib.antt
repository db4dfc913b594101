pub mod Rings
pub mod Examples
