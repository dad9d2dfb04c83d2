pub use Rattle.cause_laws
pub use Rattle.tape_laws
pub mod Kept
pub mod Runs
pub mod Storing
