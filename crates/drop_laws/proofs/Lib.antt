pub mod Leaves
pub mod Profiles
pub mod Owing
pub mod Runs
