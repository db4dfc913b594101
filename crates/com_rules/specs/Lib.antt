pub mod Fits
pub mod Room
pub mod Acts
pub mod Packets
