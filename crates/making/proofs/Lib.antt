pub mod Parting
pub mod MadeTexts
pub mod Telling
pub mod Reported
pub mod Made
pub mod Whole
