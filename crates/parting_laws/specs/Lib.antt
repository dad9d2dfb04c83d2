pub use Rattle.cause_laws
pub use Rattle.limit_laws
pub mod Parting
pub mod Limits
