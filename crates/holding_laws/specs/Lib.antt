pub use Rattle.call_laws
pub mod Incidents
pub mod Ticking
pub mod InOrder
pub mod Laws
