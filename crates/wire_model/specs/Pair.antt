-- Two ends and the line between them: what may happen, one thing after the other (this project's own).
use Rattle.std.specs.Prelude.{ℕ, ⊤, ◌&&◌, ◌≡◌, ◌<◌, ◌≤◌, ◌++◌, Bool, true, false, not, List, [], ◌∷◌, length, Option, Some, None}
use Rattle.std.specs.List.{filter_map, list_any}
use Rattle.wire_packets.specs.Packets.{Packet}
use Rattle.wire_model.specs.declared.link.Way.{Way}
use Rattle.wire_model.specs.declared.link.Way.TheVariants.{Forth, Back}
use Rattle.wire_model.specs.Machine.{Unit, Wire, Heard, new_wire, is_active, submitted, says, hears, quiet, ticked}
use Rattle.wire_model.specs.Draws.{loses, drawn_on, draws_from}
use Rattle.wire_model.specs.Trace.{Crossing}

pub record Pair : Type 0 where
  pub first : Wire
  pub second : Wire
  -- the draws of the line
  pub draws : Option ℕ

-- both ends have window 4
abbrev pub new_pair : Option ℕ → Pair
new_pair number = record { first = new_wire 4; second = new_wire 4; draws = draws_from number }

-- a unit is of a type that carries units, and no longer than a payload may be
pub record IsUnit (unit : Unit) : Type 0 where
  pub above : 1 ≤ unit.kind
  pub below : unit.kind ≤ 4
  pub fits : length unit.octets ≤ 4095

pub data Event : Type 0 where
  -- the first end takes a unit
  Took : (unit : Unit) → Event
  -- a packet is on the line, and the second end accepts a unit, or none
  Crossed : (crossing : Crossing) (got : Option Unit) → Event
  -- the timers of both ends fire
  Rang : Event

-- what an end makes of a packet that is on the line
abbrev pub hears_over : Bool → Packet → Wire → Heard
hears_over true packet w = quiet w
hears_over false packet w = hears packet w

-- a packet of an end crosses, and is lost or heard by the other
pub record Crosses (from to from' to' : Wire) (draws draws' : Option ℕ) (lost : Bool) (packet : Packet) (got : Option Unit) : Type 0 where
  pub says : says from ≡ Some (record { packet = packet; after = from' })
  pub loses : lost ≡ loses draws
  pub hears : to' ≡ (hears_over lost packet to).after
  pub gets : got ≡ (hears_over lost packet to).unit
  pub draws_on : draws' ≡ drawn_on draws

abbrev pub CrossesBy : Way → Pair → Bool → Packet → Option Unit → Pair → Type 0
CrossesBy Forth p lost packet got q = Crosses p.first p.second q.first q.second p.draws q.draws lost packet got
CrossesBy Back p lost packet got q = Crosses p.second p.first q.second q.first p.draws q.draws lost packet got

-- a unit is taken where the end is active and fewer units than its window are unacknowledged
pub record Takes (p : Pair) (unit : Unit) (q : Pair) : Type 0 where
  pub is_unit : IsUnit unit
  pub active : is_active p.first.stage ≡ true
  pub room : length p.first.unacked < p.first.window
  pub becomes : q ≡ record p { first = submitted unit p.first }

abbrev pub Happens : Pair → Event → Pair → Type 0
Happens p (Took unit) q = Takes p unit q
Happens p (Crossed crossing got) q = CrossesBy crossing.way p crossing.lost crossing.packet got q
Happens p Rang q = q ≡ record p { first = ticked p.first; second = ticked p.second }

-- one thing happens after the other
abbrev pub Runs : Pair → List Event → Pair → Type 0
Runs p [] q = q ≡ p
Runs p (event ∷ events) q = (between : Pair) × Happens p event between × Runs between events q

-- the packets on the line, the units that were taken, and those that were accepted
abbrev pub crossing_of : Event → Option Crossing
crossing_of (Took unit) = None
crossing_of (Crossed crossing got) = Some crossing
crossing_of Rang = None

abbrev pub crossings_of : List Event → List Crossing
crossings_of events = filter_map crossing_of events

abbrev pub taken_of : Event → Option Unit
taken_of (Took unit) = Some unit
taken_of (Crossed crossing got) = None
taken_of Rang = None

abbrev pub taken : List Event → List Unit
taken events = filter_map taken_of events

-- what the second end accepts; the first end accepts nothing that leaves it
abbrev pub got_by : Way → Option Unit → Option Unit
got_by Forth got = got
got_by Back got = None

abbrev pub got_of : Event → Option Unit
got_of (Took unit) = None
got_of (Crossed crossing got) = got_by crossing.way got
got_of Rang = None

abbrev pub accepted : List Event → List Unit
accepted events = filter_map got_of events

-- ---- rounds

-- an end says all that it may
abbrev pub speaker : Way → Pair → Wire
speaker Forth p = p.first
speaker Back p = p.second

abbrev pub GoesBy : Way → Event → Type 0
GoesBy way (Took unit) = ⊥
GoesBy way (Crossed crossing got) = crossing.way ≡ way
GoesBy way Rang = ⊥

abbrev pub AllGoBy : Way → List Event → Type 0
AllGoBy way [] = ⊤
AllGoBy way (event ∷ events) = GoesBy way event × AllGoBy way events

pub record SaysAll (way : Way) (p : Pair) (events : List Event) (q : Pair) : Type 0 where
  pub runs : Runs p events q
  pub go : AllGoBy way events
  pub silent : says (speaker way q) ≡ None

-- packets went, and none of them was lost
abbrev pub is_lost : Event → Bool
is_lost (Took unit) = false
is_lost (Crossed crossing got) = crossing.lost
is_lost Rang = false

abbrev pub is_some_event : List Event → Bool
is_some_event [] = false
is_some_event (event ∷ events) = true

abbrev pub is_calm : List Event → Bool
is_calm events = is_some_event events && not (list_any is_lost events)

-- the timers of both ends fire where a packet was lost, or none went
abbrev pub rings : Bool → Pair → Pair
rings true p = p
rings false p = record p { first = ticked p.first; second = ticked p.second }

abbrev pub ringing : Bool → List Event
ringing true = []
ringing false = Rang ∷ []

-- a round behind the taking of units: the first end says all that it may, then the second, then the timers may fire
pub record Passes (p : Pair) (events : List Event) (q : Pair) : Type 0 where
  pub forth : List Event
  pub back : List Event
  pub middle : Pair
  pub end : Pair
  pub forth_said : SaysAll Forth p forth middle
  pub back_said : SaysAll Back middle back end
  pub becomes : q ≡ rings (is_calm (forth ++ back)) end
  pub all : events ≡ forth ++ (back ++ ringing (is_calm (forth ++ back)))
