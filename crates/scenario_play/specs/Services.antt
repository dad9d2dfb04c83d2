-- The service in a scenario that was played: host a goes by what service discovery told it, and both hosts have the channel of the object over L2CAP in
-- enhanced mode (Object Push Profile 1.2, 4.3 and 5; Core 5.1, Volume 3 Part A, 5.4).
use Rattle.std.specs.Prelude.{ℕ, List, ◌++◌, Option}
use Rattle.bt_base.specs.declared.settings.Settings.{Settings}
use Rattle.bt_base.specs.Objects.{Object, Contents}
use Rattle.noting_laws.specs.obex_session.specs.Counting.{Counts}
use Rattle.push_script.specs.declared.scenario.Scenario.{Scenario}
use Rattle.push_terms.specs.declared.outcome.Outcome.{Outcome}
use Rattle.push_terms.specs.declared.peaks.Peaks.{Peaks}
use Rattle.capture.specs.Entries.{Entry}
use Rattle.noting_laws.specs.world_model.specs.Worlds.{all_entries}
use Rattle.noting_laws.specs.pair_laws.specs.Modes.{AreEnhanced}
use Rattle.credit_laws.specs.request_laws.specs.AsTold.{UsesService}
use Rattle.scenario_play.specs.Breaking.{IsBroken}
use Rattle.scenario_play.specs.Playing.{IsPlayed}

pub record KeepsService (settings : Settings) (capture : List Entry) : Type 0 where
  pub uses : UsesService settings capture
  pub enhanced : AreEnhanced capture

-- So it is in every scenario that was played, over either transport, to its end or as far as it came, and behind its next entry as well, whatever its script says
-- and its ports answer.
pub record PlaysKeepService : Type 0 where
  pub plays : (scenario : Scenario) (shelf : Option (List Object)) (before after : Option Contents) (trace trace' : Option (List ℕ)) (outcomes : List Outcome) (peaks : Peaks) (counts counts' : Counts)
      (played : IsPlayed scenario shelf before after trace trace' outcomes peaks counts counts') → KeepsService scenario.settings played.capture
  pub breaks : (scenario : Scenario) (shelf : Option (List Object)) (before after : Option Contents) (trace trace' : Option (List ℕ)) (counts counts' : Counts)
      (broken : IsBroken scenario shelf before after trace trace' counts counts') → KeepsService scenario.settings (all_entries broken.happenings ++ broken.next)
