-- What the calls of an end answer.
use Rattle.std.specs.Prelude.{ℕ, ◌≡◌, ◌<◌, ◌++◌, Bool, true, false, ◌&&◌, nat_lt, List, length, drop, Option, Some, None}
use Rattle.wire_packets.specs.Packets.{Packet, IsPacket}
use Rattle.wire_model.specs.Line.{line}
use Rattle.wire_model.specs.Machine as machine
use Rattle.three_wire.specs.declared.wire.WireHeard.{WireHeard}
use Rattle.three_wire.specs.declared.wire.WireHeard.TheVariants.{Unit, Reset, Nothing}
use Rattle.three_wire.specs.declared.wire.WireSubmit.{WireSubmit}
use Rattle.three_wire.specs.declared.wire.WireSubmit.TheVariants.{NotActive, Busy, Taken}

-- a unit would be taken
abbrev pub is_ready : machine.Wire → Bool
is_ready w = machine.is_active w.stage && nat_lt (length w.unacked) w.window

-- a unit is not taken where the end is not active, else not where as many are unacknowledged as the window says
abbrev pub Submits : machine.Wire → machine.Unit → WireSubmit → machine.Wire → Type 0
Submits old unit NotActive new = (machine.is_active old.stage ≡ false) × (new ≡ old)
Submits old unit Busy new = (machine.is_active old.stage ≡ true) × (length old.unacked ≡ old.window) × (new ≡ old)
Submits old unit Taken new = (machine.is_active old.stage ≡ true) × (length old.unacked < old.window) × (new ≡ machine.submitted unit old)

-- the unit that was accepted; that the end was reset; nothing of these
abbrev pub Answers : machine.Heard → WireHeard → Type 0
Answers heard (Unit kind octets) = (heard.unit ≡ Some (record { kind = kind; octets = octets.now })) × (machine.is_reset heard.after.stage ≡ false)
Answers heard Reset = (heard.unit ≡ None) × (machine.is_reset heard.after.stage ≡ true)
Answers heard Nothing = (heard.unit ≡ None) × (machine.is_reset heard.after.stage ≡ false)

-- a packet stands as on the line at the front of the slice
pub record Puts (packet : Packet) (into into' : List ℕ) (n : ℕ) : Type 0 where
  pub fits : IsPacket packet
  pub count : n ≡ length (line packet)
  pub written : into' ≡ line packet ++ drop n into

-- the end says a packet
pub record SaysThen (old new : machine.Wire) (packet : Packet) : Type 0 where
  pub says : machine.says old ≡ Some (record { packet = packet; after = new })

-- the next packet stands at the front of the slice, or there is none
abbrev pub Gives : machine.Wire → machine.Wire → List ℕ → List ℕ → Option ℕ → Type 0
Gives old new into into' None = (machine.says old ≡ None) × (new ≡ old) × (into' ≡ into)
Gives old new into into' (Some n) = (packet : Packet) × SaysThen old new packet × Puts packet into into' n
