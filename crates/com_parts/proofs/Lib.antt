pub mod Owned
pub mod Counts
pub mod Wholes
pub mod Others
pub mod Starts
