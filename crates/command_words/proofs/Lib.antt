mod Numbers
mod Finding
pub mod Asking
