pub use Rattle.staying_laws
pub mod Told
pub mod Limits
