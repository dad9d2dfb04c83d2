pub mod Accounts
pub mod AirLaws
pub mod Crowded
pub mod Example
pub mod Heard
