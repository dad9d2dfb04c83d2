pub mod Histories
pub mod Ledgers
