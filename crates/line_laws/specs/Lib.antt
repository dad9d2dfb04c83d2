pub use Rattle.radio_world.specs.acl_fragments
pub use Rattle.radio_world.specs.rest_laws
pub use Rattle.radio_world.specs.station_laws
pub use Rattle.radio_world.specs.turn_laws
pub use Rattle.radio_world.specs.world_model
pub mod Reading
pub mod Seeing
pub mod Laws
