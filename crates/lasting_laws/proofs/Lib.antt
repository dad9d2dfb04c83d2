pub mod Kept
pub mod Timed
pub mod Unsaid
pub mod Lasting
pub mod Opening
pub mod Machines
pub mod Meeting
