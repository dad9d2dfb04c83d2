pub use Rattle.bt_host
pub mod Speaking
pub mod Laws
