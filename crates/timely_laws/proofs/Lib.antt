pub mod Coming
pub mod Unheard
pub mod Unclosed
pub mod InTime
