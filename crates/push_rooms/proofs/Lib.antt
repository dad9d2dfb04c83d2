pub mod FrameLaws
pub mod NameLaws
