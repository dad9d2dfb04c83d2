pub mod Reactions
pub mod Hearing
pub mod Serving
