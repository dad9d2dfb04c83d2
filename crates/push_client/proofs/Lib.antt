pub mod OctetLaws
pub mod DialogLaws
pub mod EndingLaws
pub mod StreamLaws
pub mod HearingLaws
pub mod AskingLaws
pub mod SteppingLaws
pub mod KeepingLaws
