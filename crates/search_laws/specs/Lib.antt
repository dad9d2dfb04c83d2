pub use Rattle.cause_laws
pub use Rattle.pair_laws
pub use Rattle.request_laws
pub mod Searches
pub mod Taken
