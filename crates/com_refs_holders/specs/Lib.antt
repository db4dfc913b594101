pub mod Makes
pub mod Places
pub mod Stands
pub mod Steps
pub mod Tables
