pub use Rattle.accepting_laws
pub use Rattle.staying_laws
pub mod Timely
