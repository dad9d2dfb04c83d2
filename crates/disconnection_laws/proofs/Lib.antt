pub mod Staying
pub mod Ending
pub mod Waiting
pub mod Parting
pub mod Singly
pub mod Remembering
pub mod Meeting
