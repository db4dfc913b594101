pub mod Reasons
pub mod Chains
pub mod Texts
pub mod Walks
pub mod Laws
