pub use Rattle.run_laws
pub mod Twins
