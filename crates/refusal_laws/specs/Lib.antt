pub use Rattle.channel_laws
pub mod Refused
