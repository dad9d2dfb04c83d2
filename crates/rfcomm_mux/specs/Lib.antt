pub mod Parts
pub mod Whole
pub mod Ups
pub mod Sent
