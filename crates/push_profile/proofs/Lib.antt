pub mod PartingLaws
pub mod HearingLaws
pub mod ServiceLaws
pub mod ListeningLaws
pub mod StreamSteps
pub mod StreamEnds
pub mod ServerLaws
pub mod LendingLaws
