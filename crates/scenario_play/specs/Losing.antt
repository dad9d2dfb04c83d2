-- What the inbox of a played scenario gained where calls of it failed (Object Push Profile 1.2, 4.3; that a fault leaves out one object at most is this
-- project's own).
use Rattle.std.specs.Prelude.{ℕ, ◌≡◌, List, ◌++◌, Option, Some}
use Rattle.bt_base.specs.Objects.{Object, Contents}
use Rattle.noting_laws.specs.obex_session.specs.Counting.{Counts, HasRisenBy}
use Rattle.push_script.specs.declared.scenario.Scenario.{Scenario}
use Rattle.push_terms.specs.declared.outcome.Outcome.{Outcome}
use Rattle.push_terms.specs.declared.peaks.Peaks.{Peaks}
use Rattle.push_terms.specs.declared.word.Side.TheVariants.{B}
use Rattle.capture.specs.Entries.{Entry}
use Rattle.noting_laws.specs.link_talk.specs.Captures.{objects_heard}
use Rattle.noting_laws.specs.world_model.specs.Worlds.{all_entries}
use Rattle.noting_laws.specs.push_laws.specs.Laws.{stored_in}
use Rattle.noting_laws.specs.push_laws.specs.Losing.{LeavesOut}
use Rattle.noting_laws.specs.scenario_laws.specs.Gains.{holding}
use Rattle.noting_laws.specs.scenario_laws.specs.Parties.{party_of}
use Rattle.scenario_play.specs.Breaking.{IsBroken}
use Rattle.scenario_play.specs.Playing.{LackedNever, IsPlayed}

-- These are the objects in their order, but for as many at most as the count of faults rose by.
pub record LeavesOutCounted (gain spelled : List Object) (faults faults' : ℕ) : Type 0 where
  pub most : ℕ
  pub leaves : LeavesOut gain spelled most
  pub counted : HasRisenBy most faults faults'

-- Behind what it held the inbox gained the objects that the capture spells, but for as many at most.
pub record GainsLess (scenario : Scenario) (before : List Object) (after : Option Contents) (counts counts' : Counts) (capture : List Entry) : Type 0 where
  pub gain : List Object
  pub stored : stored_in after ≡ Some (before ++ gain)
  pub leaves : LeavesOutCounted gain (objects_heard (party_of scenario.settings B) B capture) counts.faults counts'.faults

-- So it is of every scenario that was played, over either transport, to its end or as far as it came, where the inbox never lacked memory, whatever its
-- script says and its ports answer besides.
pub record PlaysGainLess : Type 0 where
  pub plays : (scenario : Scenario) (shelf : Option (List Object)) (before : List Object) (after : Option Contents) (trace trace' : Option (List ℕ)) (outcomes : List Outcome) (peaks : Peaks) (counts counts' : Counts)
      (played : IsPlayed scenario shelf (holding before) after trace trace' outcomes peaks counts counts') → LackedNever counts counts' → GainsLess scenario before after counts counts' played.capture
  pub breaks : (scenario : Scenario) (shelf : Option (List Object)) (before : List Object) (after : Option Contents) (trace trace' : Option (List ℕ)) (counts counts' : Counts)
      (broken : IsBroken scenario shelf (holding before) after trace trace' counts counts') → LackedNever counts counts' → GainsLess scenario before after counts counts' (all_entries broken.happenings)
