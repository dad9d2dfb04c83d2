-- A push of host a goes on over each link that is up at rest (Object Push Profile 1.2, 4.3).
use Rattle.std.specs.Prelude.{List, Option}
use Rattle.radio_world.specs.bt_base.specs.Objects.{Contents}
use Rattle.radio_world.specs.push_script.specs.declared.scenario.Scenario.{Scenario}
use Rattle.host_laws.specs.world_model.specs.Worlds.{Happening}
use Rattle.scenario_laws.specs.Keeping.{PushesGoOn}

-- A link comes up only for a push that waits for it, which then has it; and at rest no host ends its link, as host a does where nothing else is
-- left to its push. So a push goes on.
abbrev pub PushesGoOnward : Type 0
PushesGoOnward = (scenario : Scenario) (content : Option Contents) (happenings : List Happening) → PushesGoOn scenario content happenings
