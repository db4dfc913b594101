pub mod Parts
pub mod SceneParts
pub mod After
pub mod Resting
