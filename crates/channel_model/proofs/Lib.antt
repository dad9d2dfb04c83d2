pub mod Lookups
pub mod Going
pub mod Walking
pub mod Calling
mod Worked
