pub use Rattle.channel_laws
pub mod Given
pub mod Again
pub mod Shared
