pub mod Sources
pub mod Answers
pub mod Rules
pub mod Bites
