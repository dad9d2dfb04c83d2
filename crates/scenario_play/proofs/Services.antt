-- The service in a scenario that was played is that of its run.
use Rattle.std.proofs.Common.{List, ◌++◌, Option}
use Rattle.bt_base.specs.Objects.{Contents}
use Rattle.push_script.specs.declared.scenario.Scenario.{Scenario}
use Rattle.capture.specs.Entries.{Entry}
use Rattle.noting_laws.specs.world_model.specs.Worlds.{all_entries}
use Rattle.noting_laws.specs.scenario_laws.specs.Captures.{Ran}
use Rattle.noting_laws.specs.pair_laws.proofs.Modes.{runs-are_enhanced}
use Rattle.credit_laws.specs.request_laws.proofs.AsTold.{runs_use_service}
use Rattle.scenario_play.specs.Services.{KeepsService, PlaysKeepService}

of_run : (scenario : Scenario) (content : Option Contents) (capture : List Entry) → Ran scenario content capture → KeepsService scenario.settings capture
of_run scenario content capture ran = record { uses = runs_use_service scenario content capture ran; enhanced = runs-are_enhanced scenario content capture ran }

pub plays_keep_service : PlaysKeepService
plays_keep_service = record {
  plays = λ scenario shelf before after trace trace' outcomes peaks counts counts' played. of_run scenario before played.capture played.finished.ran;
  breaks = λ scenario shelf before after trace trace' counts counts' broken. of_run scenario before (all_entries broken.happenings ++ broken.next) broken.ran;
}
