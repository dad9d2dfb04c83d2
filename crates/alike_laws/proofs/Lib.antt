pub mod Alike
pub mod Twins
