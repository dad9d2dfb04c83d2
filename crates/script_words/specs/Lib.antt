pub mod Parts
pub mod Words
pub mod Outcomes
pub mod Laws
