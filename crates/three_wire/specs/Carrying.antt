-- What a run over the line does to its source, its sink and its trace.
use Rattle.std.specs.Prelude.{ℕ, ◌≡◌, ◌≢◌, ◌<◌, ◌≤◌, ◌+◌, ◌*◌, ◌-◌, ◌⊎◌, Bool, true, false, not, List, [], ◌++◌, map, length, drop, get_or, Option, Some, None, IfSome, Result, Ok, Err}
use Rattle.bt_base.specs.Counts.{HasRisen}
use Rattle.bt_base.specs.Streams.{gained, GainedFront}
use Rattle.h4_framing.specs.Packets.{Packet, spelling, spellings}
use Rattle.wire_model.specs.Machine as machine
use Rattle.wire_model.specs.Draws.{draws_from}
use Rattle.wire_model.specs.Trace.{Obeys, entries, carried, units_octets, IsCut}
use Rattle.wire_model.specs.Pair.{Pair, Event, Runs, new_pair, crossings_of, taken}
use Rattle.wire_model.specs.Rounds.{takings, Rounds, joined, losses}
use Rattle.three_wire.specs.Feeding.{input_limit, HasShape, IsFeeding, IsFront, IsAll, StopsAt}
use Rattle.three_wire.specs.Going.{pair_of, IsSound, Went}
use Rattle.three_wire.specs.declared.carriage.Carriage.{Carriage}
use Rattle.three_wire.specs.declared.feed.Feed.{Feed}
use Rattle.three_wire.specs.declared.fault.CarryEnd.{CarryEnd}
use Rattle.three_wire.specs.declared.fault.CarryEnd.TheVariants.{All, Spent}
use Rattle.three_wire.specs.declared.fault.CarryFault.{CarryFault}
use Rattle.three_wire.specs.declared.fault.CarryFault.TheVariants.{NoMemory}

-- a packet of the source as the line carries it: its indicator is the packet type
abbrev pub as_unit : Packet → machine.Unit
as_unit packet = record { kind = get_or (spelling packet) 0 0; octets = drop 1 (spelling packet) }

abbrev pub as_units : List Packet → List machine.Unit
as_units packets = map as_unit packets

-- the octets of such units are those of the packets on a UART
abbrev pub UnitsAreSpelled : Type 0
UnitsAreSpelled = (packets : List Packet) → units_octets (as_units packets) ≡ spellings packets

-- what a run is given: the number of its draws, and what the source, the sink and the trace have
pub record Given : Type 0 where
  pub number : Option ℕ
  pub input : Option (List ℕ)
  pub sink : Option (List ℕ)
  pub trace : Option (List ℕ)

abbrev pub given : Option ℕ → Option (List ℕ) → Option (List ℕ) → Option (List ℕ) → Given
given number input sink trace = record { number = number; input = input; sink = sink; trace = trace }

-- What happened is whole rounds, and the units that were taken behind them.
pub record GoesRound (number : Option ℕ) (events : List Event) (last : Pair) : Type 0 where
  pub rounds : List (List Event)
  pub units : List machine.Unit
  pub between : Pair
  pub whole : Rounds (new_pair number) rounds between
  pub takes : Runs between (takings units) last
  pub all : events ≡ joined rounds ++ takings units

-- after how many rounds a run ends
abbrev pub most_rounds : ℕ → ℕ
most_rounds units = 1000 + 100 * units

-- there are no more rounds than 17, one for each unit, and two for each packet that was lost
abbrev pub IsBounded : ℕ → List Packet → List Event → Type 0
IsBounded rounds packets events = rounds ≤ 17 + length packets + 2 * losses events

-- how a run ends behind these units: all were carried, and the source has no more; or the rounds are spent; or, where
-- it broke off, as the source says. The rounds are spent only where more than 100 packets were lost.
abbrev pub EndsBy : Given → List Packet → List Event → Pair → Result CarryEnd CarryFault → Type 0
EndsBy given packets events last (Ok All) = IfSome given.input (λ all. IsAll all packets) × (carried (crossings_of events) ≡ as_units packets) × (last.first.unacked ≡ []) × ((round : GoesRound given.number events last) × IsBounded (length round.rounds) packets events)
EndsBy given packets events last (Ok Spent) = (round : GoesRound given.number events last) × (length round.rounds ≡ most_rounds (length packets)) × (100 < losses events)
EndsBy given packets events last (Err why) = IfSome given.input (λ all. StopsAt all packets why)

-- all of the trace and of what was carried is written
pub record IsWritten (cut : List ℕ) (sink sink' : Option (List ℕ)) (units : List machine.Unit) : Type 0 where
  pub no_cut : cut ≡ []
  pub gives : sink' ≡ gained sink (units_octets units)

-- What a run did. `Rose` says that a count of the sink or the trace rose.
pub record Carries (given : Given) (sink' trace' : Option (List ℕ)) (Rose : Type 0) (result : Result CarryEnd CarryFault) : Type 0 where
  -- the units that were read, which the source begins with
  pub packets : List Packet
  pub front : IfSome given.input (λ all. IsFront packets all)
  -- two ends took them, one after the other, and each packet on the line is one that they say
  pub events : List Event
  pub last : Pair
  pub runs : Runs (new_pair given.number) events last
  pub takes : taken events ≡ as_units packets
  -- the trace gains one entry for each packet, and behind the whole ones perhaps the beginning of one
  pub cut : List ℕ
  pub is_cut : IsCut cut
  pub traced : trace' ≡ gained given.trace (entries (crossings_of events) ++ cut)
  pub obeys : Obeys (draws_from given.number) (crossings_of events)
  -- what the entries say was carried is a front of the units that were read, and the sink gains a front of that
  pub left : List machine.Unit
  pub in_order : as_units packets ≡ carried (crossings_of events) ++ left
  pub delivers : GainedFront given.sink sink' (units_octets (carried (crossings_of events)))
  pub whole : IsWritten cut given.sink sink' (carried (crossings_of events)) ⊎ Rose
  pub ends : EndsBy given packets events last result

-- a count of the sink or the trace rose
abbrev pub AnyRose : ℕ → ℕ → ℕ → ℕ → ℕ → ℕ → ℕ → ℕ → Type 0
AnyRose kf kf' ks ks' tf tf' ts ts' = HasRisen kf kf' ⊎ HasRisen ks ks' ⊎ HasRisen tf tf' ⊎ HasRisen ts ts'

-- a count of faults of the sink or the trace rose; a count of shortages of the source, the sink or the trace
abbrev pub WriteRose : ℕ → ℕ → ℕ → ℕ → Type 0
WriteRose kf kf' tf tf' = HasRisen kf kf' ⊎ HasRisen tf tf'

abbrev pub ShortageRose : ℕ → ℕ → ℕ → ℕ → ℕ → ℕ → Type 0
ShortageRose ss ss' ks ks' ts ts' = HasRisen ss ss' ⊎ HasRisen ks ks' ⊎ HasRisen ts ts'

-- the input is whole units within the limits
abbrev pub IsWholeInput : Option (List ℕ) → Type 0
IsWholeInput None = ⊥
IsWholeInput (Some all) = (packets : List Packet) × IsAll all packets

-- all was carried, or memory was wanting
abbrev pub EndsWell : Result CarryEnd CarryFault → Type 0
EndsWell result = (result ≡ Ok All) ⊎ (result ≡ Err NoMemory)

-- nothing was read or written
abbrev pub IsUntouched : Option (List ℕ) → Option (List ℕ) → Option (List ℕ) → Option (List ℕ) → Option (List ℕ) → Option (List ℕ) → Type 0
IsUntouched source source' sink sink' trace trace' = (source' ≡ source) × (sink' ≡ sink) × (trace' ≡ trace)

-- ---- a run that goes on

-- the source goes on, or was found to be at its end
abbrev pub ReadsOn : Bool → Option (List ℕ) → Option (List ℕ) → Feed → List Packet → Type 0
ReadsOn false input left feed packets = IsFeeding input left feed packets
ReadsOn true input left feed packets = IfSome input (λ all. IsAll all packets) × IfSome left (λ rest. rest ≡ [])

-- How far a run is.
pub record IsCarrying (given : Given) (left sink trace : Option (List ℕ)) (carriage : Carriage) : Type 0 where
  pub sound : IsSound carriage.ends
  pub shape : HasShape carriage.feed
  pub packets : List Packet
  pub front : IfSome given.input (λ all. IsFront packets all)
  pub read : ReadsOn carriage.ended given.input left carriage.feed packets
  pub few : length packets ≤ input_limit
  pub units_count : carriage.units ≡ length packets
  pub events : List Event
  pub went : Went (new_pair given.number) (pair_of carriage.ends) events given.sink sink given.trace trace
  pub takes : taken events ≡ as_units packets
  pub round : GoesRound given.number events (pair_of carriage.ends)
  pub rounds_count : carriage.rounds ≡ length round.rounds
  pub in_time : carriage.rounds ≤ most_rounds carriage.units

abbrev pub IsGoing : Option (List ℕ) → Carriage → Type 0
IsGoing left carriage = (given : Given) × (sink trace : Option (List ℕ)) × IsCarrying given left sink trace carriage

-- it goes on, or breaks off with the sink and the trace as they were
abbrev pub GoesOn : Given → Option (List ℕ) → Option (List ℕ) → Option (List ℕ) → Carriage → Result (Unit {0}) CarryFault → Type 0
GoesOn given left sink trace carriage (Ok done) = IsCarrying given left sink trace carriage
GoesOn given left sink trace carriage (Err why) = Carries given sink trace ⊥ (Err why)

-- it goes on, or a port breaks it off
abbrev pub GoesOver : Given → Option (List ℕ) → Option (List ℕ) → Option (List ℕ) → Carriage → Result (Unit {0}) CarryFault → Type 0
GoesOver given left sink trace carriage (Ok done) = IsCarrying given left sink trace carriage
GoesOver given left sink trace carriage (Err why) = Carries given sink trace (Unit {0}) (Err why)

-- how many units may still be taken before packets go
abbrev pub takes_left : Carriage → ℕ
takes_left carriage = (carriage.ends.first.window - length carriage.ends.first.unacked) + machine.flag (not carriage.ended)

-- a unit is to be carried, where the first end is active
abbrev pub HasCause : Carriage → Type 0
HasCause carriage = machine.is_active carriage.ends.first.stage ≡ true → carriage.ends.first.unacked ≢ []

-- how a run ends there: all is carried, or the rounds are spent; else it goes on
abbrev pub EndsHere : Carriage → Option CarryEnd → Type 0
EndsHere carriage None = (carriage.rounds < most_rounds carriage.units) × (carriage.ended ≡ true → carriage.ends.first.unacked ≢ [])
EndsHere carriage (Some All) = (carriage.ended ≡ true) × (carriage.ends.first.unacked ≡ [])
EndsHere carriage (Some Spent) = most_rounds carriage.units ≤ carriage.rounds
