pub mod Counts
pub mod Held
pub mod Wire
pub mod Inside
pub mod Crossing
pub mod Going
pub mod Feeding
pub mod Carrying
