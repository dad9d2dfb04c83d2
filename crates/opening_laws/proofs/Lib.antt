pub mod Opening
pub mod Grounding
pub mod Stepping
pub mod Occurring
pub mod Giving
