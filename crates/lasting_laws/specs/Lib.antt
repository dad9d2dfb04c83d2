pub mod Lasting
pub mod Ends
