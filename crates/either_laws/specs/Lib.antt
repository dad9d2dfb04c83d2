pub use Rattle.behind_laws
pub use Rattle.orderly_laws
pub mod Anew
pub mod ByLinks
