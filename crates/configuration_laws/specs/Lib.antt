pub mod Asked
pub mod Met
