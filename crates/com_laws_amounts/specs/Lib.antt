pub mod Amounts
pub mod Integers
pub mod Broken
