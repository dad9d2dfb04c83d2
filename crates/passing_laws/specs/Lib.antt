pub mod Words
pub mod Channels
pub mod Handed
pub mod Timers
