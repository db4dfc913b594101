pub mod CutLemmas
pub mod GiveLemmas
pub mod KeptLemmas
pub mod RowLemmas
pub mod SeatLemmas
pub mod StepLemmas
