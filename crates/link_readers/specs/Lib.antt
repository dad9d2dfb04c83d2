pub use Rattle.l2cap_config
pub use Rattle.talk_laws
pub mod Lent
