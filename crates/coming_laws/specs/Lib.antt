pub use Rattle.outcome_laws
pub mod OwnLinks
pub mod Telling
pub mod Shelf
pub mod AddingUp
pub mod ComingAbout
