pub mod Statuses
pub mod Inputs
pub mod Responses
pub mod Unread
pub mod Lengths
