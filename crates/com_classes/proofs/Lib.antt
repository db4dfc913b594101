pub mod BuiltIns
pub mod Keys
