-- Hosts to which nothing has happened (this project's own).
use Rattle.std.specs.Prelude.{ℕ, ◌≡◌, true, List, []}
use Rattle.push_terms.specs.declared.word.Side.{Side}
use Rattle.room_laws.specs.world_model.specs.Machines.{Upper}
use Rattle.room_laws.specs.world_model.specs.Stations.{Station, Effort, first_station}
use Rattle.radio_world.specs.Hosts.{Asking, answering, MakesEfforts}
use Rattle.radio_world.specs.Standing.{starting}

-- its own efforts alone led there from where nothing had happened, and its machine was idle
pub record HasBegun {S G : Type 0} (U : Upper S G) (side : Side) (station : Station S) : Type 0 where
  pub first : S
  pub idle : U.is_idle first ≡ true
  pub efforts : List Effort
  pub makes : MakesEfforts U side efforts (first_station (starting first U) side) station

-- Whatever its port answers from now on, a new host did no more than to begin by itself. It holds no octets of a packet, and is sound.
pub record Begins {S G : Type 0} (U : Upper S G) (side : Side) (host : Asking S G) (held : List ℕ) (Sound : Type 0) : Type 0 where
  pub begun : (rest : List G) → HasBegun U side (answering rest host)
  pub none_held : held ≡ []
  pub sound : Sound
