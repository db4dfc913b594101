pub mod Words
pub mod Sections
pub mod Orders
pub mod Parts
pub mod Spelling
pub mod Laws
pub mod Examples
