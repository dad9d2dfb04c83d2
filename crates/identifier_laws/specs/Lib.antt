pub use Rattle.disconnection_laws
pub mod Rising
pub mod Granting
