pub mod Events
pub mod Timed
pub mod Turning
pub mod Limits
