pub mod Lines
pub mod Rounds
pub mod Heard
pub mod Hosts
pub mod Differing
pub mod Shifting
pub mod Roomy
