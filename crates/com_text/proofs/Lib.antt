pub mod Strays
pub mod Scans
pub mod Keeps
pub mod Cuts
pub mod Runs
pub mod Remarks
pub mod Pieces
