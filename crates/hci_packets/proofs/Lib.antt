pub mod Lists
pub mod Reading
pub mod CommandLaws
pub mod EventLaws
pub mod Entries
pub mod Parts
