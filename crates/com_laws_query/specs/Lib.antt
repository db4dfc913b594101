pub mod Querying
pub mod Rules
pub mod Broken
