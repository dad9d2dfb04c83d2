pub mod Becoming
pub mod Held
pub mod Spent
pub mod Unlinked
pub mod Going
pub mod Holding
