pub mod Sizes
pub mod Loops
pub mod Answered
pub mod Sending
