-- What holds of each run of two ends over a line that loses packets.
use Rattle.std.specs.Prelude.{ℕ, ◌≡◌, ◌≤◌, ◌+◌, ◌*◌, false, List, [], ◌++◌, length, Option}
use Rattle.wire_model.specs.Machine.{Unit, is_reset, debts}
use Rattle.wire_model.specs.declared.link.Way.{Way}
use Rattle.wire_model.specs.Causes.{causes, said_by}
use Rattle.wire_model.specs.Draws.{draws_from}
use Rattle.wire_model.specs.Trace.{Obeys, carried}
use Rattle.wire_model.specs.Pair.{Pair, Event, Runs, new_pair, speaker, crossings_of, taken, accepted}
use Rattle.wire_model.specs.Rounds.{Rounds, joined, losses}

-- each packet takes one draw, and is lost exactly where that says so
abbrev pub TagsObey : Type 0
TagsObey = (number : Option ℕ) (events : List Event) (last : Pair) → Runs (new_pair number) events last → Obeys (draws_from number) (crossings_of events)

-- no end hears SYNC when it is active
abbrev pub NeverReset : Type 0
NeverReset = (number : Option ℕ) (events : List Event) (last : Pair) → Runs (new_pair number) events last → (is_reset last.first.stage ≡ false) × (is_reset last.second.stage ≡ false)

-- what the packets say was carried is what the second end accepted, and a front of what the first end took, each
-- unit whole, once and in order
abbrev pub CarriedInOrder : Type 0
CarriedInOrder = (number : Option ℕ) (events : List Event) (last : Pair) → Runs (new_pair number) events last
    → (carried (crossings_of events) ≡ accepted events) × ((left : List Unit) × (taken events ≡ carried (crossings_of events) ++ left))

-- at most four units are unacknowledged, and the second end has none
abbrev pub WithinWindow : Type 0
WithinWindow = (number : Option ℕ) (events : List Event) (last : Pair) → Runs (new_pair number) events last → (length last.first.unacked ≤ 4) × (last.second.unacked ≡ [])

-- where none is unacknowledged all that was taken was carried
abbrev pub AllCarried : Type 0
AllCarried = (number : Option ℕ) (events : List Event) (last : Pair) → Runs (new_pair number) events last → last.first.unacked ≡ [] → carried (crossings_of events) ≡ taken events

-- there are at most 17 rounds, one for each unit that was taken, and two for each packet that was lost
abbrev pub RoundsAreFew : Type 0
RoundsAreFew = (number : Option ℕ) (rounds : List (List Event)) (last : Pair) → Rounds (new_pair number) rounds last → length rounds ≤ 17 + length (taken (joined rounds)) + 2 * losses (joined rounds)

-- each packet of an end has a cause of its own, of which its start is one; what it still has to say has others
abbrev pub OncePerCause : Type 0
OncePerCause = (number : Option ℕ) (events : List Event) (last : Pair) (run : Runs (new_pair number) events last) (own : Way)
    → said_by own events + debts (speaker own last) ≤ 1 + causes own (new_pair number) last events run
