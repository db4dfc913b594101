pub mod Fronts
pub mod Spelled
pub mod Values
pub mod Streams
pub mod Appending
