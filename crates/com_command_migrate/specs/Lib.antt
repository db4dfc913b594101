pub mod Migrating
pub mod Moving
pub mod Inputs
pub mod Answers
