pub mod Changes
pub mod First
pub mod Rooms
pub mod Tables
