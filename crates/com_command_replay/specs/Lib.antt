pub mod Histories
pub mod Scenarios
pub use Rattle.com_replay.specs.Recorded
pub use Rattle.com_replay.specs.Replays
