pub use Rattle.configuration_laws
pub use Rattle.disconnection_laws
pub use Rattle.lasting_laws
pub mod Forgone
pub mod Lasts
