pub mod ListLemmas
pub mod AllLemmas
pub mod ChainLemmas
pub mod Stored
