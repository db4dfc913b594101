pub mod Rows
pub mod Candidates
mod Summed
