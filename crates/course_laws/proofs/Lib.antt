pub mod Ending
pub mod Hearing
pub mod Stepping
pub mod Deeds
