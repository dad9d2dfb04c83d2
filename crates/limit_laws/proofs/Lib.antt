pub mod Upsetting
pub mod LeavingNone
pub mod GoingOn
pub mod Telling
