pub mod Cutting
pub mod Exact
pub mod Bites
