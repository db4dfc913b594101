pub mod CounterLemmas
pub mod Sums
pub mod StubLemmas
