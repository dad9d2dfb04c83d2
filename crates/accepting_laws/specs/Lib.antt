pub mod Accepted
pub mod First
pub mod InTime
pub mod Anew
pub mod Together
