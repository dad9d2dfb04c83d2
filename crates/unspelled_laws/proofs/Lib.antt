pub mod Possible
pub mod Hearing
pub mod Alone
pub mod Along
