pub mod Holding
pub mod Fronts
pub mod Asking
