pub use Rattle.asking_laws
pub use Rattle.pair_laws
pub use Rattle.staying_laws
pub use Rattle.timely_laws
pub use Rattle.told_laws
pub mod Upsets
pub mod GoesOn
pub mod Spares
