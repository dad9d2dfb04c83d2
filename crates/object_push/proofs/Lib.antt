pub mod Ended
pub mod Gained
pub mod Reasons
pub mod Handing
pub mod Going
pub mod Causes
pub mod Taking
mod Gaining
pub mod Keeping
pub mod Streaming
pub mod Telling
