pub mod Keeping
pub mod Granting
pub mod Owning
pub mod Spending
pub mod Seen
pub mod Untelling
pub mod Deciding
