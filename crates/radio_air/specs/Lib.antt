pub use Rattle.radio_model
pub mod Rings
pub mod Keeping
pub mod Plain
