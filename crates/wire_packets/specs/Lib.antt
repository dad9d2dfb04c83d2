pub mod Packets
pub mod Answers
pub mod Slip
pub mod Stepping
pub mod Laws
