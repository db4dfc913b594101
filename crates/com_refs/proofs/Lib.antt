pub mod Counteds
pub mod Ends
pub mod Finding
pub mod Losses
pub mod Makings
pub mod Moved
pub mod Numbered
pub mod Outside
pub mod Reported
pub mod Rests
pub mod Settling
pub mod Steps
pub mod Ties
mod Bounds
