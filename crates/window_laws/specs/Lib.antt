pub mod Windows
pub mod Numbers
pub mod Machines
pub mod Hosts
pub mod Pairs
pub mod Runs
