pub use Rattle.cause_laws
pub mod Dropped
