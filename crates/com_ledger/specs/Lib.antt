pub mod Ties
pub mod Bodies
pub mod Falling
pub mod Most
pub mod Quiet
