pub mod Late
pub mod Once
