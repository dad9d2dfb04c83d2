pub mod Walking
pub mod Spelling
pub mod Spelled
pub mod Finding
pub mod Taking
pub mod Fronts
