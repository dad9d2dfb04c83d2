pub use Rattle.push_model
pub mod Courses
pub mod Talking
pub mod Putting
pub mod Pushing
pub mod Telling
pub mod Requesting
pub mod Ending
