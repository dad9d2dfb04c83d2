-- What bounds how much a host says (this project's own).
use Rattle.std.specs.Prelude.{ℕ, ◌≡◌, List, []}
use Rattle.room_laws.specs.world_model.specs.Machines.{Upper}
use Rattle.settling_laws.specs.Weights.{SaysAtMost}
use Rattle.radio_world.specs.Hosts.{Asking}

-- with each thing that its machine hears it has at most so many PDUs more left to say, and how many these are is nothing to what its port
-- answers later
pub record SpeaksWithin {S G H P : Type 0} (U : Upper S G) (station : H → P → Asking S G) (most : ℕ) : Type 0 where
  pub few : SaysAtMost most U
  pub steady : (host : H) (port : P) (rest : List G) → U.left ((station host port).upper rest) ≡ U.left ((station host port).upper [])
