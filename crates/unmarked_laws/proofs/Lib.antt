pub mod Unserved
pub mod Open
mod Pushes
mod Ends
mod Down
mod Fallen
pub mod LastHere
pub mod Without
