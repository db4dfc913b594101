pub mod Within
pub mod Sources
pub mod Bites
