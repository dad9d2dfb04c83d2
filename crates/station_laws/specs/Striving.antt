-- What a host in code does by itself, as efforts of its station (this project's own).
use Rattle.std.specs.Prelude.{ℕ, ◌≡◌, ◌+◌, List, [], ◌∷◌, ◌++◌, drop, map, length}
use Rattle.turn_laws.specs.h4_framing.specs.Packets.{spellings}
use Rattle.turn_laws.specs.push_terms.specs.declared.word.Side.{Side}
use Rattle.host_link.specs.Lines.{Line}
use Rattle.turn_laws.specs.world_model.specs.Machines.{Upper}
use Rattle.turn_laws.specs.world_model.specs.Stations.{Order, order_packet, Station, Effort, MakesEffort}
use Rattle.station_laws.specs.Seen.{Offers, IsStation}

-- one effort after the other
abbrev pub Makes : {S G : Type 0} → Upper S G → Side → List Effort → Station S → Station S → Type 0
Makes U side [] old new = new ≡ old
Makes {S} U side (effort ∷ efforts) old new = (mid : Station S) × MakesEffort U side effort old mid × Makes U side efforts mid new

-- a station makes these efforts, with that machine at their end, and the host is what it is then
pub record Strives {S G : Type 0} (U : Upper S G) (side : Side) (gone : ℕ) (efforts : List Effort) (old : Station S) (upper : S) (new : Line) : Type 0 where
  pub after : Station S
  pub makes : Makes U side efforts old after
  pub upper_is : after.upper ≡ upper
  pub is_station : IsStation side gone new after

-- so many octets are taken: with them go the packets of the first orders, which the last of their octets ends
pub record Departs (side : Side) (gone : ℕ) (orders : List Order) (count : ℕ) (octets : List ℕ) : Type 0 where
  pub moved : List Order
  pub rest : List Order
  pub gone_then : ℕ
  pub orders_are : orders ≡ moved ++ rest
  pub counted : gone + count ≡ length (spellings (map (order_packet side) moved)) + gone_then
  pub offers : Offers side gone_then rest (drop count octets)
