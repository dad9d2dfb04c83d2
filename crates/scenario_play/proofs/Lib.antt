mod Blaming
pub mod Causes
mod Embedded
mod Counting
pub mod Bare
pub mod Plainness
mod Newness
mod Alikeness
mod OwnServers
mod Unfailing
mod Shelves
mod Along
mod Able
mod Course
mod Failing
mod Breaking
mod Names
mod Ended
pub mod Gained
pub mod Streamed
pub mod Lost
mod Unacknowledged
mod Stepping
mod NotedWindows
pub mod PeakBounds
pub mod BufferPeaks
pub mod WindowPeaks
pub mod Solvent
pub mod Pushed
pub mod Services
mod Untouched
pub mod Doing
