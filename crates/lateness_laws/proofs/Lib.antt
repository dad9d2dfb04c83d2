pub mod Hearing
pub mod Keeping
pub mod Meeting
pub mod Parts
pub mod Sending
pub mod AskedOnce
pub mod Remaining
