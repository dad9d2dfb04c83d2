pub mod Types
pub mod Items
pub mod Reading
pub mod Agreement
pub mod Writing
pub mod Laws
