pub mod Pieces
pub mod Values
pub mod Windows
pub mod Joiners
pub mod Receivers
pub mod Senders
pub mod Machines
