pub mod OnePass
pub mod Spelling
pub mod Growing
pub mod Worked
pub mod Ways
