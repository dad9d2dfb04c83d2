pub mod Lists
pub mod Patterns
pub mod Reading
pub mod Pieces
pub mod Written
pub mod Answering
