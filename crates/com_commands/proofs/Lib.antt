pub mod Unreading
pub mod Asking
pub mod Answering
