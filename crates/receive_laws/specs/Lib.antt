pub mod Moving
pub mod Answers
pub mod InTurn
pub mod Freely
pub mod Quietly
pub mod Streams
