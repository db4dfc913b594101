pub mod Closed
pub mod Markup
