pub use Rattle.forgoing_laws
pub mod Stays
