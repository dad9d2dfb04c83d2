pub use Rattle.push_laws
pub mod Standing
pub mod Orderly
pub mod Sample
