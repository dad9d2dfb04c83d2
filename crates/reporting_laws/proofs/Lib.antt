pub mod Comings
pub mod Finding
pub mod Exactly
pub mod Reporting
