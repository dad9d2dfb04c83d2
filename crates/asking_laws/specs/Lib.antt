pub use Rattle.identifier_laws
pub mod Rising
pub mod Singly
