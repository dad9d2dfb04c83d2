pub mod Once
pub mod BlamesNone
pub mod AbortedFirst
