pub mod Bodies
pub mod Apartments
pub mod Rooms
pub mod StasKept
pub mod Words
