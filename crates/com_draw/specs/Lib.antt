pub mod Ends
pub mod Entries
pub mod Fronts
pub mod Pages
pub mod Pictures
pub mod Reasons
pub mod Widths
