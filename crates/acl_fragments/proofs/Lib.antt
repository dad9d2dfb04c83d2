pub mod Cutting
pub mod Grouping
pub mod Holding
pub mod Frames
pub mod Given
