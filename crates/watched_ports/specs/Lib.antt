pub mod Pasts
pub mod Counts
pub mod Gains
