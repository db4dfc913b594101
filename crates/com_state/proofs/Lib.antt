pub mod Joined
pub mod SceneRows
pub mod SceneNext
pub mod AtRest
pub mod Quiet
pub mod Settles
