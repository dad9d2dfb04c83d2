pub mod Reading
pub mod Sending
pub mod Seeing
pub mod Coming
pub mod Linking
pub mod Stopping
