pub use Rattle.unit_laws
pub mod Answered
pub mod Orderly
pub mod Served
pub mod Carried
pub mod Channels
