pub mod Schedule
pub mod Jobs
pub mod Standings
pub mod Turns
pub mod Reports
