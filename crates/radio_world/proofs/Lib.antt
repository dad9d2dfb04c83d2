mod Fed
mod Leaving
pub mod Spelled
pub mod Moving
mod Entering
mod Lifting
pub mod Advancing
mod Settling
mod Reacting
mod Turned
mod Starting
pub mod Standing
mod Hearing
mod Blaming
pub mod Runs
mod Closing
pub mod Wanting
mod Crowding
mod Returned
pub mod Reasons
mod Tallying
mod Lowering
pub mod Overrunning
mod Breaking
pub mod Broken
pub mod BufferPeaks
mod Beginning
