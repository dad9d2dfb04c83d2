pub mod Codes
pub mod Packets
pub mod Reading
pub mod Laws
pub mod Runs
pub mod Reader
pub mod Assembling
pub mod Assembled
