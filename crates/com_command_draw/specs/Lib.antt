pub mod Pages
pub mod Begun
pub mod Traces
pub mod Words
pub mod Commands
