pub mod Requests
pub mod Ranges
pub mod Lists
pub mod Listed
pub mod Asking
pub mod Replies
pub mod Laws
