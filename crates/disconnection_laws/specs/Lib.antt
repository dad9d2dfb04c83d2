pub mod Ended
pub mod Waits
pub mod Met
