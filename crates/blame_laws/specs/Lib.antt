pub use Rattle.cause_laws
pub use Rattle.request_laws
pub mod AskedOnce
pub mod Blamed
