pub mod Numbers
pub mod Texts
pub mod HeaderLaws
pub mod PacketLaws
pub mod WritingLaws
pub mod RunLaws
pub mod ReaderLaws
pub mod AssemblerLaws
