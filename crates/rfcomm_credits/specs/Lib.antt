pub mod Histories
pub mod Accounts
