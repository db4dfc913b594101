pub mod LaneLemmas
pub mod LawLemmas
