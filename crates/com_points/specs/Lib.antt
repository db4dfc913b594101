pub mod Bodies
pub mod Heads
pub mod Writing
pub mod Placing
pub mod Sources
pub mod SourceHeads
