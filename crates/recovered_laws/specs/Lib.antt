pub mod Calm
pub mod Paid
pub mod TwoEnds
pub mod Owing
