pub mod Passing
pub mod Finished
pub mod Answered
