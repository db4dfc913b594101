pub mod Applying
pub mod Counted
pub mod Closing
pub mod Exchanging
pub mod Following
pub mod Giving
pub mod Kept
pub mod Lowest
pub mod Offered
pub mod Reading
pub mod Rising
pub mod Tied
pub mod Within
mod Begins
mod Keeping
mod Runs
pub mod Quiet
