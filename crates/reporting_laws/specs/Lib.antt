pub use Rattle.lending_laws
pub use Rattle.outcome_laws
pub mod Exactly
pub mod Reporting
