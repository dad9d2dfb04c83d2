pub mod Walks
pub mod Requests
pub mod PartLaws
pub mod Joining
pub mod Served
