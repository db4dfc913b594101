pub mod Kept
pub mod Rooms
pub mod Settled
pub mod Lists
