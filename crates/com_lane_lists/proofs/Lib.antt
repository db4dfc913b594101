pub mod Bodies
pub mod StasKept
pub mod Words
pub mod MarksLeft
pub mod Rows
