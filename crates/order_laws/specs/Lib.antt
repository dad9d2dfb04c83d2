pub use Rattle.bt_host
pub mod Rounds
pub mod Laws
pub mod Hosts
pub mod Differing
