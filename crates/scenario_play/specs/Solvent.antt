-- That the credits of no host ran out in a scenario that was played (RFCOMM 1.2, 6.5).
use Rattle.std.specs.Prelude.{ℕ, List, ◌++◌, Option}
use Rattle.bt_base.specs.Objects.{Object, Contents}
use Rattle.noting_laws.specs.obex_session.specs.Counting.{Counts}
use Rattle.push_script.specs.declared.scenario.Scenario.{Scenario}
use Rattle.push_terms.specs.declared.outcome.Outcome.{Outcome}
use Rattle.push_terms.specs.declared.peaks.Peaks.{Peaks}
use Rattle.push_terms.specs.declared.word.Side.{Side}
use Rattle.noting_laws.specs.world_model.specs.Worlds.{all_entries}
use Rattle.credit_laws.specs.Kept.{StaysSolvent}
use Rattle.scenario_play.specs.Breaking.{IsBroken}
use Rattle.scenario_play.specs.Playing.{IsPlayed}

-- At each moment of the capture of every scenario that was played, the credits that either host holds are not below nothing: over either transport, to its end
-- or as far as it came, and behind its next entry as well, whatever its script says and its ports answer.
pub record PlaysStaySolvent : Type 0 where
  pub plays : (scenario : Scenario) (shelf : Option (List Object)) (before after : Option Contents) (trace trace' : Option (List ℕ)) (outcomes : List Outcome) (peaks : Peaks) (counts counts' : Counts)
      (played : IsPlayed scenario shelf before after trace trace' outcomes peaks counts counts') (side : Side) → StaysSolvent scenario.settings side played.capture
  pub breaks : (scenario : Scenario) (shelf : Option (List Object)) (before after : Option Contents) (trace trace' : Option (List ℕ)) (counts counts' : Counts)
      (broken : IsBroken scenario shelf before after trace trace' counts counts') (side : Side) → StaysSolvent scenario.settings side (all_entries broken.happenings ++ broken.next)
