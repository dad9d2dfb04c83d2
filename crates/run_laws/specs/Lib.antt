pub use Rattle.station_laws.specs.acl_fragments
pub use Rattle.station_laws.specs.push_terms
pub use Rattle.station_laws.specs.radio_model
pub use Rattle.station_laws
pub use Rattle.station_laws.specs.world_model
pub mod Laws
pub mod Embedding
pub mod Breaking
