pub mod Pieces
pub mod Groups
pub mod Cuts
pub mod Answers
pub mod Buffers
pub mod Steps
pub mod Joiners
pub mod Laws
