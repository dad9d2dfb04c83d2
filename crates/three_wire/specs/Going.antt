-- How two ends, the trace and the sink go on together.
use Rattle.std.specs.Prelude.{ℕ, ◌≡◌, ◌<◌, Bool, ◌&&◌, ◌||◌, not, List, [], ◌∷◌, ◌++◌, Option, Some, None, Result, Ok, Err}
use Rattle.std.specs.List.{list_any}
use Rattle.bt_base.specs.Streams.{gained, GainedFront}
use Rattle.wire_model.specs.declared.link.Way.{Way}
use Rattle.wire_model.specs.Machine as machine
use Rattle.wire_model.specs.Trace.{entries, units_octets, IsCut}
use Rattle.wire_model.specs.Pair.{Pair, Event, Runs, crossings_of, taken, accepted, speaker, GoesBy, AllGoBy, Passes, is_lost, is_some_event}
use Rattle.three_wire.specs.declared.ends.Ends.{Ends}
use Rattle.three_wire.specs.declared.ends.Said.{Said}
use Rattle.three_wire.specs.declared.fault.CarryFault.{CarryFault}
use Rattle.three_wire.specs.Crossing.{IsAtRest, HasRoom}

abbrev pub pair_of : Ends → Pair
pair_of ends = record { first = ends.first; second = ends.second; draws = ends.medium.draws }

-- between two packets nothing is held of one, and there is room
pub record IsSound (ends : Ends) : Type 0 where
  pub first_rests : IsAtRest ends.to_first
  pub second_rests : IsAtRest ends.to_second
  pub room : HasRoom ends.medium

-- These events happened; each packet has its entry in the trace, and each accepted unit stands in the sink.
pub record Went (p q : Pair) (events : List Event) (sink sink' trace trace' : Option (List ℕ)) : Type 0 where
  pub runs : Runs p events q
  pub writes : trace' ≡ gained trace (entries (crossings_of events))
  pub gives : sink' ≡ gained sink (units_octets (accepted events))

-- These events happened, of which none is the taking of a unit, and a port failed then: behind the whole entries may stand the beginning of one, and the
-- sink has a front of what was accepted.
pub record Broke (p : Pair) (sink sink' trace trace' : Option (List ℕ)) : Type 0 where
  pub events : List Event
  pub last : Pair
  pub cut : List ℕ
  pub runs : Runs p events last
  pub none : taken events ≡ []
  pub is_cut : IsCut cut
  pub writes : trace' ≡ gained trace (entries (crossings_of events) ++ cut)
  pub front : GainedFront sink sink' (units_octets (accepted events))

-- one packet of that way went
pub record WentOne (way : Way) (p q : Pair) (sink sink' trace trace' : Option (List ℕ)) (lost : Bool) : Type 0 where
  pub event : Event
  pub goes : GoesBy way event
  pub fate : is_lost event ≡ lost
  pub went : Went p q (event ∷ []) sink sink' trace trace'
  pub falls : machine.debts (speaker way q) < machine.debts (speaker way p)

abbrev pub Goes : Way → Pair → Pair → Option (List ℕ) → Option (List ℕ) → Option (List ℕ) → Option (List ℕ) → Result (Option Bool) CarryFault → Type 0
Goes way p q sink sink' trace trace' (Ok None) = (machine.says (speaker way p) ≡ None) × (q ≡ p) × (sink' ≡ sink) × (trace' ≡ trace)
Goes way p q sink sink' trace trace' (Ok (Some lost)) = WentOne way p q sink sink' trace trace' lost
Goes way p q sink sink' trace trace' (Err fault) = Broke p sink sink' trace trace'

-- packets of that way went, one after the other
pub record WentSo (way : Way) (p q : Pair) (sink sink' trace trace' : Option (List ℕ)) (said : Said) : Type 0 where
  pub events : List Event
  pub go : AllGoBy way events
  pub went : Went p q events sink sink' trace trace'
  pub some : said.went ≡ is_some_event events
  pub lost : said.lost ≡ list_any is_lost events

abbrev pub SaidAll : Way → Pair → Pair → Option (List ℕ) → Option (List ℕ) → Option (List ℕ) → Option (List ℕ) → Result Said CarryFault → Type 0
SaidAll way p q sink sink' trace trace' (Ok said) = WentSo way p q sink sink' trace trace' said × (machine.says (speaker way q) ≡ None)
SaidAll way p q sink sink' trace trace' (Err fault) = Broke p sink sink' trace trace'

-- packets went, and none was lost
abbrev pub both_calm : Said → Said → Bool
both_calm forth back = (forth.went || back.went) && not (forth.lost || back.lost)

-- a round went
pub record WentRound (p q : Pair) (sink sink' trace trace' : Option (List ℕ)) : Type 0 where
  pub events : List Event
  pub passes : Passes p events q
  pub went : Went p q events sink sink' trace trace'

abbrev pub Passed : Pair → Pair → Option (List ℕ) → Option (List ℕ) → Option (List ℕ) → Option (List ℕ) → Result (Unit {0}) CarryFault → Type 0
Passed p q sink sink' trace trace' (Ok done) = WentRound p q sink sink' trace trace'
Passed p q sink sink' trace trace' (Err fault) = Broke p sink sink' trace trace'
