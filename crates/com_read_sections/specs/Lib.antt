pub mod Header
pub mod Beginning
pub mod Opened
pub mod Going
pub mod Outlines
