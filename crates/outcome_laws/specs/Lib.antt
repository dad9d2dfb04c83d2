pub use Rattle.cause_laws
pub use Rattle.unit_laws
pub mod FirstCause
pub mod BroughtAbout
pub mod SaidWith
