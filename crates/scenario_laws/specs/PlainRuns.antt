-- Both hosts of every run are plain (Core 5.1, Volume 3 Part A, 4.6 and 6.2; Part B, 4.2).
use Rattle.std.specs.Prelude.{List, Option}
use Rattle.radio_world.specs.bt_base.specs.Objects.{Contents}
use Rattle.radio_world.specs.push_script.specs.declared.scenario.Scenario.{Scenario}
use Rattle.host_laws.specs.world_model.specs.Worlds.{Happening}
use Rattle.host_laws.specs.Calls.{HostsAsk}
use Rattle.host_laws.specs.Keeping.{SendsAsItLends}
use Rattle.host_laws.specs.Searching.{AsksAsItSteps}
use Rattle.scenario_laws.specs.Plain.{ArePlain}

-- Wherever a run is at rest on its way, over L2CAP or over RFCOMM and whatever its ports answered: a push of host a goes on over a link that is
-- up and waits for services as its own talk says, and neither host gave up a request there.
abbrev pub RunsArePlain : Type 0
RunsArePlain = (asks : HostsAsk) (scenario : Scenario) (content : Option Contents) (happenings : List Happening) → AsksAsItSteps scenario.settings (asks.clients scenario.settings)
    → SendsAsItLends scenario.settings content (asks.servers scenario.settings content) → ArePlain asks scenario content happenings
