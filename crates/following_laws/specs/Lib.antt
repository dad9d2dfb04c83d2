pub use Rattle.host_laws
pub mod Following
pub mod OneAtATime
