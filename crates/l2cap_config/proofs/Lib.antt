pub mod TypeLists
pub mod ItemLists
pub mod Written
pub mod Once
