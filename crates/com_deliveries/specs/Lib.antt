pub mod Book
pub mod Delivered
pub mod Indices
pub mod Rows
pub mod Tables
