pub mod Counts
pub mod Objects
pub mod Octets
pub mod PlainSettings
pub mod Streams
pub mod Numbers
