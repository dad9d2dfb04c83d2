pub mod Refusals
pub mod Commands
pub mod Events
pub mod Buffers
pub mod AclWords
pub mod Units
pub mod Laws
