-- What becomes of a packet on the line, in the ends, the trace and the sink.
use Rattle.std.specs.Prelude.{ℕ, ◌≤◌, vec_len, vec_capacity, ◌≡◌, ◌⊎◌, Bool, true, false, List, [], Option, Some, None, Result, Ok, Err, IsErrOf}
use Rattle.std.specs.Option.{option_to_list}
use Rattle.bt_base.specs.Counts.{HasRisen}
use Rattle.bt_base.specs.Streams.{gained, GainedFront}
use Rattle.wire_packets.specs.Packets.{Packet}
use Rattle.wire_packets.specs.Stepping.{Slipping}
use Rattle.wire_packets.specs.declared.stepping.Place.{Place}
use Rattle.wire_packets.specs.declared.stepping.Place.TheVariants.{Outside, Inside, Escaping}
use Rattle.wire_model.specs.declared.link.Way.{Way}
use Rattle.wire_model.specs.Machine as machine
use Rattle.wire_model.specs.Trace.{entry, unit_octets, units_octets, IsCut}
use Rattle.wire_model.specs.Pair.{Crosses, got_by}
use Rattle.three_wire.specs.declared.crossing.Medium.{Medium}
use Rattle.three_wire.specs.declared.fault.CarryFault.{CarryFault}
use Rattle.three_wire.specs.declared.fault.CarryFault.TheVariants.{Refused, ReadFault, WriteFault, NoMemory, TooLong}

-- a decoder holds nothing of a packet
abbrev pub is_open : Place → Bool
is_open Outside = true
is_open Inside = true
is_open Escaping = false

pub record IsAtRest (slipping : Slipping) : Type 0 where
  pub empty : slipping.held ≡ []
  pub waits : is_open slipping.place ≡ true

-- the unit that was accepted stands there, or none was accepted
abbrev pub HasUnit : Bool → Option machine.Unit → List ℕ → Type 0
HasUnit true got octets = (unit : machine.Unit) × (got ≡ Some unit) × (octets ≡ unit_octets unit)
HasUnit false got octets = got ≡ None

-- an end hears a packet whole
pub record HearsWhole (packet : Packet) (old new : machine.Wire) (slipping : Slipping) (octets : List ℕ) (result : Bool) : Type 0 where
  pub after : new ≡ (machine.hears packet old).after
  pub rest : IsAtRest slipping
  pub unit : HasUnit result (machine.hears packet old).unit octets

-- a fault of a port that is written to has its cause
pub record Blames (faults faults' shortages shortages' : ℕ) (result : Result (Unit {0}) CarryFault) : Type 0 where
  pub failed : IsErrOf result WriteFault → HasRisen faults faults'
  pub short : IsErrOf result NoMemory → HasRisen shortages shortages'

abbrev pub IsOfPorts : CarryFault → Type 0
IsOfPorts (Refused refusal place) = ⊥
IsOfPorts ReadFault = ⊥
IsOfPorts WriteFault = Unit {0}
IsOfPorts NoMemory = Unit {0}
IsOfPorts (TooLong place) = ⊥

-- there is room for each packet, each entry and each unit
pub record HasRoom (medium : Medium) : Type 0 where
  pub line : vec_len medium.line ≡ 8200
  pub entry : 8203 ≤ vec_capacity medium.entry
  pub unit : 4096 ≤ vec_capacity medium.unit

-- the octets of what the second end accepted
abbrev pub got_octets : Way → Option machine.Unit → List ℕ
got_octets way got = units_octets (option_to_list (got_by way got))

-- a packet crossed, and stands in the trace; a unit that it brought stands in the sink
pub record CrossesIn (way : Way) (from from' to to' : machine.Wire) (draws draws' : Option ℕ) (sink sink' trace trace' : Option (List ℕ)) (lost : Bool) : Type 0 where
  pub packet : Packet
  pub got : Option machine.Unit
  pub crosses : Crosses from to from' to' draws draws' lost packet got
  pub writes : trace' ≡ gained trace (entry (record { way = way; lost = lost; packet = packet }))
  pub gives : sink' ≡ gained sink (got_octets way got)

-- the trace failed within an entry
pub record CutsTrace (sink sink' trace trace' : Option (List ℕ)) : Type 0 where
  pub cut : List ℕ
  pub is_cut : IsCut cut
  pub writes : trace' ≡ gained trace cut
  pub gives : sink' ≡ sink

-- or behind it, or the sink failed
pub record CutsSink (way : Way) (from to : machine.Wire) (draws : Option ℕ) (sink sink' trace trace' : Option (List ℕ)) : Type 0 where
  pub from' : machine.Wire
  pub to' : machine.Wire
  pub draws' : Option ℕ
  pub lost : Bool
  pub packet : Packet
  pub got : Option machine.Unit
  pub crosses : Crosses from to from' to' draws draws' lost packet got
  pub writes : trace' ≡ gained trace (entry (record { way = way; lost = lost; packet = packet }))
  pub front : GainedFront sink sink' (got_octets way got)

abbrev pub CrossesSo : Way → machine.Wire → machine.Wire → machine.Wire → machine.Wire → Option ℕ → Option ℕ → Option (List ℕ) → Option (List ℕ) → Option (List ℕ) → Option (List ℕ) → Result (Option Bool) CarryFault → Type 0
CrossesSo way from from' to to' draws draws' sink sink' trace trace' (Ok None) = (machine.says from ≡ None) × (from' ≡ from) × (to' ≡ to) × (draws' ≡ draws) × (sink' ≡ sink) × (trace' ≡ trace)
CrossesSo way from from' to to' draws draws' sink sink' trace trace' (Ok (Some lost)) = CrossesIn way from from' to to' draws draws' sink sink' trace trace' lost
CrossesSo way from from' to to' draws draws' sink sink' trace trace' (Err fault) = CutsTrace sink sink' trace trace' ⊎ CutsSink way from to draws sink sink' trace trace'

-- no count rose
pub record Steady (kf kf' ks ks' tf tf' ts ts' : ℕ) : Type 0 where
  pub sink_faults : kf' ≡ kf
  pub sink_shortages : ks' ≡ ks
  pub trace_faults : tf' ≡ tf
  pub trace_shortages : ts' ≡ ts

-- each fault of sink and trace has its cause
abbrev pub BlamesBoth : {A : Type 0} → ℕ → ℕ → ℕ → ℕ → ℕ → ℕ → ℕ → ℕ → Result A CarryFault → Type 0
BlamesBoth kf kf' ks ks' tf tf' ts ts' (Ok done) = Unit {0}
BlamesBoth kf kf' ks ks' tf tf' ts ts' (Err WriteFault) = HasRisen kf kf' ⊎ HasRisen tf tf'
BlamesBoth kf kf' ks ks' tf tf' ts ts' (Err NoMemory) = HasRisen ks ks' ⊎ HasRisen ts ts'
BlamesBoth kf kf' ks ks' tf tf' ts ts' (Err ReadFault) = ⊥
BlamesBoth kf kf' ks ks' tf tf' ts ts' (Err (Refused refusal place)) = ⊥
BlamesBoth kf kf' ks ks' tf tf' ts ts' (Err (TooLong place)) = ⊥
