pub mod Counts
pub mod Totals
pub mod Found
pub mod Makes
pub mod Numbers
