pub mod Rooms
pub mod Hearing
pub mod Breaking
pub mod Going
pub mod Feeding
pub mod Carrying
