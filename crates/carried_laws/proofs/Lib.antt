pub mod Heeding
pub mod Owing
pub mod Replying
pub mod Serving
pub mod Coming
pub mod Ordering
pub mod Sample
