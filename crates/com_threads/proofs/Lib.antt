pub mod Counting
pub mod Added
pub mod Dealt
pub mod Driven
