pub mod OctetLemmas
pub mod PortLaws
