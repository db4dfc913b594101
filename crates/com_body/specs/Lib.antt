pub mod Frames
pub mod Operands
pub mod Actions
pub mod BodySteps
pub mod Bodies
pub mod Done
