pub mod Deeds
pub mod Hosts
pub mod Worlds
pub mod Counts
pub mod Strands
pub mod Tries
pub mod Links
pub mod Firings
