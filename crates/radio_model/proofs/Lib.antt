pub mod Outstanding
pub mod Flying
