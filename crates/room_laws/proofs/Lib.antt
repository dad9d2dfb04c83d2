pub mod Straying
pub mod Spending
pub mod Handing
pub mod Numbering
pub mod Rooming
