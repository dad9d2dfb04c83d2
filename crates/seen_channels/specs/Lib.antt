pub mod Tellings
pub mod Tables
pub mod Laws
