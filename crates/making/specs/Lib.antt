pub mod Counting
pub mod Summary
pub mod MadePorts
pub mod Outcomes
pub mod Making
pub mod Laws
