pub mod Lines
pub mod Fronts
pub mod Cuts
pub mod Judging
pub mod Turning
pub mod Agreeing
pub mod AgreedLines
