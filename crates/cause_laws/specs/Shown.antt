-- The captures of runs show why pushes ended (this project's own).
use Rattle.std.specs.Prelude.{◌≡◌, false, List, ◌++◌, Option}
use Rattle.scenario_laws.specs.bt_base.specs.Objects.{Contents}
use Rattle.scenario_laws.specs.push_script.specs.declared.scenario.Scenario.{Scenario}
use Rattle.scenario_laws.specs.world_model.specs.Worlds.{Happening, all_entries}
use Rattle.scenario_laws.specs.radio_world.specs.Standing.{last_entries}
use Rattle.scenario_laws.specs.Captures.{client_of, BothHosts, Happened}
use Rattle.cause_laws.specs.FirstCauses.{CausesAreShown}

-- So it is of each run, wherever it broke off, whose client did not lack memory; and with the end of the push that goes on behind it.
pub record RunsShowCauses : Type 0 where
  pub moments : (scenario : Scenario) (content : Option Contents) (happenings : List Happening) (world : BothHosts) → Happened scenario content happenings world → world.a.upper.profile.client.failed ≡ false → CausesAreShown scenario.settings (all_entries happenings)
  pub ends : (scenario : Scenario) (content : Option Contents) (happenings : List Happening) (world : BothHosts) → Happened scenario content happenings world → world.a.upper.profile.client.failed ≡ false
      → CausesAreShown scenario.settings (all_entries happenings ++ last_entries ((client_of scenario).outcome world.a.upper) world.pushes)
