-- Why an end says a packet: each packet has a cause of its own (this project's own).
use Rattle.std.specs.Prelude.{ℕ, ◌+◌, Bool, not, List, [], ◌∷◌, length}
use Rattle.wire_model.specs.declared.link.Stage.{Stage}
use Rattle.wire_model.specs.declared.link.Stage.TheVariants.{Uninitialized, Initialized, Active, Reset}
use Rattle.wire_model.specs.declared.link.Way.{Way}
use Rattle.wire_model.specs.declared.link.Way.TheVariants.{Forth, Back}
use Rattle.wire_model.specs.Machine.{Wire, flag}
use Rattle.wire_model.specs.Pair.{Pair, Event, Took, Crossed, Rang, Runs, speaker}

-- what a timer asks of an end: one message of link control, or each unit that is not acknowledged
abbrev pub timer_causes : Stage → Wire → ℕ
timer_causes Uninitialized w = 1
timer_causes Initialized w = 1
timer_causes Active w = length w.unacked
timer_causes Reset w = 0

-- the first end takes a unit
abbrev pub taking_causes : Way → ℕ
taking_causes Forth = 1
taking_causes Back = 0

-- a packet of the other end is heard, which asks for one packet at most: an answer, or CONFIG in a new state
abbrev pub hearing_causes : (own way : Way) → Bool → ℕ
hearing_causes Forth Forth lost = 0
hearing_causes Forth Back lost = flag (not lost)
hearing_causes Back Forth lost = flag (not lost)
hearing_causes Back Back lost = 0

-- the causes that an event gives the end of that way
abbrev pub causes_of : Way → Pair → Event → ℕ
causes_of own p (Took unit) = taking_causes own
causes_of own p (Crossed crossing got) = hearing_causes own crossing.way crossing.lost
causes_of own p Rang = timer_causes (speaker own p).stage (speaker own p)

abbrev pub causes : Way → (p q : Pair) (events : List Event) → Runs p events q → ℕ
causes own p q [] run = 0
causes own p q (event ∷ events) run = causes_of own p event + causes own run.0 q events run.2

-- how many packets the end of that way says
abbrev pub is_of : (own way : Way) → ℕ
is_of Forth Forth = 1
is_of Forth Back = 0
is_of Back Forth = 0
is_of Back Back = 1

abbrev pub said_of : Way → Event → ℕ
said_of own (Took unit) = 0
said_of own (Crossed crossing got) = is_of own crossing.way
said_of own Rang = 0

abbrev pub said_by : Way → List Event → ℕ
said_by own [] = 0
said_by own (event ∷ events) = said_of own event + said_by own events
