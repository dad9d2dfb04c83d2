pub use Rattle.coming_laws
pub use Rattle.reporting_laws
pub mod Explaining
