pub mod Commands
pub mod Reading
pub mod Writing
pub mod Grammar
