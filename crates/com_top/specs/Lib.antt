pub mod Explaining
pub mod Loading
pub mod Showing
pub mod Words
pub mod Commands
