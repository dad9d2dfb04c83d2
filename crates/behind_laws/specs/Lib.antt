pub use Rattle.following_laws
pub use Rattle.orderly_laws
pub mod InTurn
pub mod Orderly
