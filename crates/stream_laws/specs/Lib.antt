pub use Rattle.either_laws
pub mod StreamsByLinks
