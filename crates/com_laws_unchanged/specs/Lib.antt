pub mod Resting
pub mod Ends
pub mod Rowless
