pub mod Wires
pub mod Sent
pub mod Previews
pub mod Received
pub mod Messages
pub mod Replies
pub mod Answers
