pub mod Walks
pub mod Cleans
pub mod Scenes
pub mod Packets
pub mod Deeds
pub mod Laws
pub mod Bites
