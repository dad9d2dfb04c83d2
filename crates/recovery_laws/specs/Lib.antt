pub mod Number
pub mod Facts
pub mod Words
pub mod Requests
