pub mod CutFaults
pub mod Behind
pub mod Found
pub mod Missed
pub mod Iids
