pub mod Weighing
pub mod Orders
pub mod Bounding
