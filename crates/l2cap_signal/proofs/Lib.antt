pub mod Steps
pub mod Pieces
pub mod Contents
pub mod Judged
pub mod Payloads
