pub mod Keeping
pub mod Firing
pub mod Giving
pub mod Staying
pub mod Falling
pub mod Paying
