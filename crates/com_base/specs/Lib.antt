pub mod Guids
pub mod HResults
pub mod Room
pub mod Values
