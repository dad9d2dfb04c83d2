pub use Rattle.push_model
pub mod Left
