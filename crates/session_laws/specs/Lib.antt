pub use Rattle.push_laws
pub mod Once
pub mod BlamesNone
pub mod AbortedFirst
