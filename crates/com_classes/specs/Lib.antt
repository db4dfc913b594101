pub mod Tables
pub mod BuiltIns
pub mod Lookups
pub mod Activation
pub mod Indexed
