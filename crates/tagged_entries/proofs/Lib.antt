pub mod Lengths
pub mod LongNumbers
pub mod Fronts
