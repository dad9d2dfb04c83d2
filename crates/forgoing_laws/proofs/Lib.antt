pub mod Firing
pub mod Spending
pub mod Asked
pub mod Lasting
