mod Walks
mod Takes
mod Removes
mod Lists
mod Fired
mod Advised
mod Stepped
pub mod Framed
mod Servers
pub mod Runs
mod Sourced
mod Fitting
mod Cookies
mod Between
mod Placed
mod Living
mod Called
mod Sitting
mod Told
mod Around
mod Acts
mod Passing
mod Stepping
pub mod Delivered
