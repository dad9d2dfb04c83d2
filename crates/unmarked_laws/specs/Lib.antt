pub use Rattle.done_laws
pub mod Unspelled
pub mod Ends
pub mod Unserved
