pub mod Parts
pub mod Rings
pub mod Cutting
pub mod Keeping
pub mod Windowing
pub mod Valuing
pub mod Handing
pub mod Asking
