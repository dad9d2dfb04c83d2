-- The trace of a line is read in one way (this project's own).
use Rattle.std.specs.Prelude.{ℕ, ◌≡◌, ◌<◌, List, ◌++◌, Option}
use Rattle.std.specs.List.{AllByRecursion}
use Rattle.wire_model.specs.Trace.{Crossing, entries, IsCut}
use Rattle.wire_model.specs.Pair.{Pair, Event, Runs, new_pair, crossings_of, accepted}

-- SeqNo and AckNo have three bits each (Core 5.1, Volume 4 Part D, sections 4.1 and 4.2)
abbrev pub NumbersFit : Crossing → Type 0
NumbersFit crossing = (crossing.packet.seq < 8) × (crossing.packet.ack < 8)

-- Octets are the entries of one list of packets with one cut behind them: which way each packet went, whether it was
-- lost, and all that it says.
abbrev pub TracesAreReadInOneWay : Type 0
TracesAreReadInOneWay = (first second : List Crossing) (cut other : List ℕ) → AllByRecursion NumbersFit first → AllByRecursion NumbersFit second → IsCut cut → IsCut other
    → entries first ++ cut ≡ entries second ++ other → (first ≡ second) × (cut ≡ other)

-- the packets of each run are such
abbrev pub NumbersOfRunsFit : Type 0
NumbersOfRunsFit = (number : Option ℕ) (events : List Event) (last : Pair) → Runs (new_pair number) events last → AllByRecursion NumbersFit (crossings_of events)

-- Two runs with the same trace, whatever their draws and the units that they took, have the same packets on the line,
-- and their second ends accepted the same units.
abbrev pub RunsAreReadInOneWay : Type 0
RunsAreReadInOneWay = (number other_number : Option ℕ) (events other_events : List Event) (last other_last : Pair) (cut other : List ℕ)
    → Runs (new_pair number) events last → Runs (new_pair other_number) other_events other_last → IsCut cut → IsCut other
    → entries (crossings_of events) ++ cut ≡ entries (crossings_of other_events) ++ other
    → (crossings_of events ≡ crossings_of other_events) × (accepted events ≡ accepted other_events) × (cut ≡ other)
