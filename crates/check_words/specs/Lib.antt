pub mod Division
pub mod CheckWords
pub mod Register
pub mod Laws
