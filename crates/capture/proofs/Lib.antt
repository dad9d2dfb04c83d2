pub mod HistoryLaws
pub mod MoreLaws
pub mod Completing
pub mod EntryLaws
pub mod FrontLaws
pub mod OneFront
pub mod CaptureLaws
pub mod FurtherLaws
