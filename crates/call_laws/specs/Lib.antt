pub use Rattle.bt_host
pub use Rattle.unit_laws
pub mod Impulses
pub mod HostCalls
pub mod Laws
