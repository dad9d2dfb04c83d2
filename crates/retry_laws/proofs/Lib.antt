pub mod Counting
pub mod Paying
