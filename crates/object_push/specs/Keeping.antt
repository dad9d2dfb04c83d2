-- What is so of each run of a scenario, over L2CAP or over RFCOMM, over its capture (this project's own).
use Rattle.std.specs.Prelude.{◌++◌}
use Rattle.push_script.specs.declared.scenario.Scenario.{Scenario}
use Rattle.scenario_play.specs.world_model.specs.Worlds.{all_entries}
use Rattle.scenario_play.specs.Gaining.{KeepsPlayed, KeepsBroken}
use Rattle.btpush_forms.specs.declared.status.Status.{Status}
use Rattle.object_push.specs.Ports.{Ports}
use Rattle.object_push.specs.Running.{Runs, RanToEnd, RanShort}

-- Where it was played to its end: its accounts, the pushes and their outcomes, and the air obeyed the script. As far as it
-- came where it stopped short: its accounts, and each entry keeps to the script.
abbrev pub KeepsRun : (scenario : Scenario) (old new : Ports) (result : Status) → Runs scenario old new result → Type 0
KeepsRun scenario old new result (RanToEnd outcomes kept peaks played gains faults reports) = KeepsPlayed scenario outcomes played.capture
KeepsRun scenario old new result (RanShort fault is stops broken grows silent) = KeepsBroken scenario (all_entries broken.happenings ++ broken.next)

-- So it is, whatever its ports answer and hold.
abbrev pub RunsKeep : Type 0
RunsKeep = (scenario : Scenario) (old new : Ports) (result : Status) (runs : Runs scenario old new result) → KeepsRun scenario old new result runs
