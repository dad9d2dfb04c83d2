pub mod Named
pub mod Given
pub mod Again
pub mod Shared
pub mod Outgoing
