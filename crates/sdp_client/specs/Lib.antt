pub mod Replies
pub mod Reading
pub mod Asking
pub mod Hearing
pub mod Laws
pub mod Views
