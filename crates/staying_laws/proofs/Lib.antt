pub mod Kept
pub mod Timed
pub mod Occurring
pub mod Machines
pub mod Crossing
pub mod There
pub mod Standing
pub mod Peers
