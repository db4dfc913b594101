pub mod Whole
pub mod Openings
pub mod Rules
pub mod Bodies
pub mod Stepping
pub mod Stands
pub mod BodyLemmas
pub mod Same
mod Cells
