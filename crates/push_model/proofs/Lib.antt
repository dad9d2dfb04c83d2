pub mod CauseLaws
pub mod ShownLaws
pub mod LinkLaws
pub mod StreamLaws
pub mod ShownFirstLaws
