-- Where the controller of a host in code takes one packet more, and the host has room for it, whenever a PDU has come in whole or its timer fires, by the
-- units that move between the two: no piece of a PDU waits then (Core 5.1, Volume 2 Part E, 4.1.1).
use Rattle.std.specs.Prelude.{◌≡◌, ◌≢◌, Bool, true, is_some, List, [], ◌∷◌, ◌++◌, map}
use Rattle.call_laws.specs.bt_host.specs.capture.specs.Links.{linking}
use Rattle.call_laws.specs.bt_host.specs.capture.specs.Moves.{Move}
use Rattle.call_laws.specs.bt_host.specs.host_link.specs.declared.role.Role.{Role}
use Rattle.call_laws.specs.bt_host.specs.host_link.specs.PuttingOut.{started}
use Rattle.call_laws.specs.bt_host.specs.host_link.specs.Stands.{into, out_of}
use Rattle.call_laws.specs.bt_host.specs.host_model.specs.Circumstances.{Circumstance}
use Rattle.call_laws.specs.bt_host.specs.host_model.specs.Profiles.{Profile}
use Rattle.call_laws.specs.bt_host.specs.Stacks.{Stacked}
use Rattle.call_laws.specs.unit_laws.specs.scenario_laws.specs.h4_framing.specs.Packets.{Packet}
use Rattle.call_laws.specs.unit_laws.specs.Capacity.{takes_more}
use Rattle.call_laws.specs.unit_laws.specs.Timed.{news_ticks, timed_on, pdus_up}
use Rattle.call_laws.specs.Impulses.{Impulse, Hears, Learns, GoesOn, Gives, Pages, HasImpulses, MovesWith, AreSpelled}
use Rattle.holding_laws.specs.Ticking.{room_after}

-- its controller takes one packet more, and room for more was left where it went on last
pub record LetsOut (moved : List Move) (room : Bool) : Type 0 where
  pub takes : takes_more moved ≡ true
  pub room_is : room ≡ true

-- so it is where a PDU has come in whole with a packet, and where the timer fires while a link is up
abbrev pub IsToldOpenly : Impulse → List Move → Bool → Type 0
IsToldOpenly (Hears packet) moved room = (timed_on (pdus_up moved) (pdus_up (moved ++ into packet ∷ [])) [] ≢ []) → LetsOut moved room
IsToldOpenly (Learns news) moved room = (news_ticks news ≢ []) → is_some (linking moved).up ≡ true → LetsOut moved room
IsToldOpenly GoesOn moved room = Unit {0}
IsToldOpenly (Gives count) moved room = Unit {0}
IsToldOpenly (Pages address) moved room = Unit {0}

module _ {E S P : Type 0} (A : Profile S) (Answers : P → List Circumstance → P → Type 0) (pushing : E → P → List Circumstance → S) where
  -- with one impulse after the other, behind the units that moved before
  abbrev pub AreToldOpenly : (impulses : List Impulse) (old new : Stacked E) → HasImpulses A Answers pushing impulses old new → List Move → Bool → Type 0
  AreToldOpenly [] old new has moved room = Unit {0}
  AreToldOpenly (impulse ∷ impulses) old new (mid, port, port', one, more) moved room =
      IsToldOpenly impulse moved room × ((first : List Move) → MovesWith impulse old mid first → AreToldOpenly impulses mid new more (moved ++ first) (room_after impulse room mid.line))

  -- from the first moment on
  abbrev pub AreToldFromStart : Role → (impulses : List Impulse) (old new : Stacked E) → HasImpulses A Answers pushing impulses old new → Type 0
  AreToldFromStart role impulses old new has = (first : List Packet) → AreSpelled (started role).out first → AreToldOpenly impulses old new has (map out_of first) true
