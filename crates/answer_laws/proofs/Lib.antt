pub mod Using
pub mod Memory
