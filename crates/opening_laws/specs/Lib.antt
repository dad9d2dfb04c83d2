pub use Rattle.channel_laws
pub mod Opening
pub mod Giving
