pub use Rattle.unmarked_laws
pub mod Withheld
