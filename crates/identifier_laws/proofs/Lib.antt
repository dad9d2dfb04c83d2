pub mod Ending
pub mod Growing
pub mod Hosts
pub mod Granting
