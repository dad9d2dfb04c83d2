-- Where the timer of a host in code fires among the units that move with all that comes to it (Core 5.1, Volume 4 Part A, 2; Volume 3 Part A, 6.2.1).
use Rattle.std.specs.Prelude.{◌≡◌, Bool, List, [], ◌∷◌, ◌++◌, map}
use Rattle.call_laws.specs.bt_host.specs.capture.specs.Moves.{Move}
use Rattle.call_laws.specs.bt_host.specs.host_link.specs.declared.role.Role.{Role}
use Rattle.call_laws.specs.bt_host.specs.host_link.specs.Lines.{Line}
use Rattle.call_laws.specs.bt_host.specs.host_link.specs.PuttingOut.{has_room, started}
use Rattle.call_laws.specs.bt_host.specs.host_link.specs.Stands.{out_of}
use Rattle.call_laws.specs.bt_host.specs.host_model.specs.Circumstances.{Circumstance}
use Rattle.call_laws.specs.bt_host.specs.host_model.specs.Profiles.{Profile}
use Rattle.call_laws.specs.bt_host.specs.Stacks.{Stacked}
use Rattle.call_laws.specs.unit_laws.specs.scenario_laws.specs.h4_framing.specs.Packets.{Packet}
use Rattle.call_laws.specs.unit_laws.specs.Timed.{Tick, Moves, Fires, news_ticks}
use Rattle.call_laws.specs.Impulses.{Impulse, Hears, Learns, GoesOn, Gives, Pages, HasImpulses, MovesWith, AreSpelled}

-- the units among what ticked
abbrev pub moves_among : List Tick → List Move
moves_among [] = []
moves_among (Moves move ∷ list) = move ∷ moves_among list
moves_among (Fires ∷ list) = moves_among list

-- with an impulse the timer fires, where that is what it is
abbrev pub firing_of : Impulse → List Tick
firing_of (Hears packet) = []
firing_of (Learns news) = news_ticks news
firing_of GoesOn = []
firing_of (Gives count) = []
firing_of (Pages address) = []

-- and behind that units move
pub record TicksBy {E : Type 0} (impulse : Impulse) (old new : Stacked E) (list : List Tick) : Type 0 where
  pub moves : List Move
  pub move : MovesWith impulse old new moves
  pub list_is : list ≡ firing_of impulse ++ map Moves moves

-- whether it had room for more where it went on last: where octets are taken, or another device is paged, it does not go on
abbrev pub room_after : Impulse → Bool → Line → Bool
room_after (Hears packet) room line = has_room line
room_after (Learns news) room line = has_room line
room_after GoesOn room line = has_room line
room_after (Gives count) room line = room
room_after (Pages address) room line = room

module _ {E S P : Type 0} (A : Profile S) (Answers : P → List Circumstance → P → Type 0) (pushing : E → P → List Circumstance → S) where
  -- with one after the other
  abbrev pub TicksAlong : (impulses : List Impulse) (old new : Stacked E) → HasImpulses A Answers pushing impulses old new → List Tick → Type 0
  TicksAlong [] old new has list = list ≡ []
  TicksAlong (impulse ∷ impulses) old new (mid, port, port', one, more) list = (first rest : List Tick) × TicksBy impulse old mid first × TicksAlong impulses mid new more rest × (list ≡ first ++ rest)

  -- from the first moment on: a new host has put out its first command
  pub record TicksFromStart (role : Role) (impulses : List Impulse) (old new : Stacked E) (has : HasImpulses A Answers pushing impulses old new) (list : List Tick) : Type 0 where
    pub first : List Packet
    pub spelled : AreSpelled (started role).out first
    pub rest : List Tick
    pub along : TicksAlong impulses old new has rest
    pub list_is : list ≡ map Moves (map out_of first) ++ rest

  abbrev pub room_along : (impulses : List Impulse) (old new : Stacked E) → HasImpulses A Answers pushing impulses old new → Bool → Bool
  room_along [] old new has room = room
  room_along (impulse ∷ impulses) old new (mid, port, port', one, more) room = room_along impulses mid new more (room_after impulse room mid.line)
