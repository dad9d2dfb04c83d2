-- What a host holds, and what it was told and said, is read off its units (this project's own).
use Rattle.std.specs.Prelude.{List, map}
use Rattle.std.specs.List.{AllByRecursion}
use Rattle.scenario_laws.specs.push_terms.specs.declared.word.Side.{Side}
use Rattle.scenario_laws.specs.capture.specs.Links.{links, link_up}
use Rattle.scenario_laws.specs.capture.specs.Pdus.{pdus}
use Rattle.scenario_laws.specs.host_link.specs.declared.role.Role.{Role}
use Rattle.scenario_laws.specs.host_link.specs.Stands.{Stands}
use Rattle.scenario_laws.specs.world_model.specs.Machines.{News, Linked, Failed, Heard, TimerFired, Cancelled, Opening, Upper}
use Rattle.scenario_laws.specs.world_model.specs.Talks.{Talk, Told, Said, Unsent, Met, Done}
use Rattle.scenario_laws.specs.turn_laws.specs.Premises.{SaysFrames}
use Rattle.scenario_laws.specs.host_laws.specs.OverLinks.{OverLinks, parts}
use Rattle.scenario_laws.specs.Coming.{FallTo, LastIsUp}
use Rattle.unit_laws.specs.Units.{Lined, starting, Occasion, Comes, Learns, Says, Puts, Commands, Waits, units, lone_capture, Runs, Whatever, ComesInTurn}

-- Whatever comes to a host, and whatever it does: its ledger has for every handle the packets that its units leave outstanding there, and which
-- link is up, whether a connection is awaited and which PDU is coming in is what they say.
abbrev pub LinesAreRead : {S G : Type 0} → Upper S G → Type 0
LinesAreRead {S} {G} U = (role : Role) (occasions : List (Occasion G)) (now : Lined S) → Runs U Whatever occasions (starting U role) now → Stands (units occasions) now.line

-- ---- what it was told and said

-- its timer does not fire
abbrev pub IsUntimed : News → Type 0
IsUntimed (Linked event) = Unit {0}
IsUntimed (Failed status) = Unit {0}
IsUntimed (Heard pdu) = Unit {0}
IsUntimed TimerFired = ⊥
IsUntimed Cancelled = Unit {0}
IsUntimed (Opening name) = Unit {0}

abbrev pub FiresNone : {G : Type 0} → Occasion G → Type 0
FiresNone (Comes gifts unit) = Unit {0}
FiresNone (Learns gifts news) = IsUntimed news
FiresNone (Says pdu) = Unit {0}
FiresNone (Puts handle piece) = Unit {0}
FiresNone (Commands command) = Unit {0}
FiresNone Waits = Unit {0}

abbrev pub IsUnfired : Talk → Type 0
IsUnfired (Told news) = IsUntimed news
IsUnfired (Said pdu) = Unit {0}
IsUnfired (Unsent pdu) = Unit {0}
IsUnfired (Met fate checked) = Unit {0}
IsUnfired (Done outcome) = Unit {0}

-- a machine was told and said what the links of a capture have, each PDU in its order, and behind that what it said and did not put out; and where a
-- link is up, the last part of its talk has what moved on that. Where no timer fired, its talk says so.
pub record TalksAs {S G : Type 0} (U : Upper S G) (side : Side) (occasions : List (Occasion G)) (now : S) : Type 0 where
  pub talk : List Talk
  pub over : OverLinks U talk now
  pub fall : FallTo (parts talk) (map pdus (links side (lone_capture side (units occasions))))
  pub up : LastIsUp (parts talk) (link_up side (lone_capture side (units occasions)))
  pub unfired : AllByRecursion FiresNone occasions → AllByRecursion IsUnfired talk

-- So it is of a host that hears one thing at a time, over its own units.
abbrev pub UnitsAreTalk : {S G : Type 0} → Upper S G → Type 0
UnitsAreTalk {S} {G} U =
    (side : Side) (role : Role) (occasions : List (Occasion G)) (now : Lined S) → SaysFrames U → Runs U (ComesInTurn U) occasions (starting U role) now → TalksAs U side occasions now.upper
