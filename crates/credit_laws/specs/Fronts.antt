-- That what each run holds is kept at each moment of a run (this project's own).
use Rattle.std.specs.Prelude.{◌≡◌, List, Option}
use Rattle.inbox_laws.specs.bt_base.specs.declared.settings.Transport.TheVariants.{Rfcomm}
use Rattle.inbox_laws.specs.bt_base.specs.Objects.{Contents}
use Rattle.inbox_laws.specs.push_script.specs.declared.scenario.Scenario.{Scenario}
use Rattle.inbox_laws.specs.push_terms.specs.declared.word.Side.{Side}
use Rattle.inbox_laws.specs.capture.specs.Entries.{Entry}
use Rattle.inbox_laws.specs.world_model.specs.Machines.{News}
use Rattle.inbox_laws.specs.world_model.specs.Worlds.{Happening, Runs, all_words}
use Rattle.inbox_laws.specs.host_model.specs.Circumstances.{Circumstance}
use Rattle.inbox_laws.specs.scenario_laws.specs.Captures.{client_of, server_of, BothHosts, beginning, Ran}
use Rattle.inbox_laws.specs.pair_laws.specs.Granted.{answered_by}
use Rattle.inbox_laws.specs.pair_laws.specs.Keeping.{LosesNothing}
use Rattle.credit_laws.specs.Kept.{IsSolvent, StaysSolvent}

-- all that happened, where the ports of both hosts give these answers in place of those
abbrev pub HappenedWith : Scenario → (to_a to_b : News → List Circumstance → List Circumstance) → Option Contents → List Happening → BothHosts → Type 0
HappenedWith scenario to_a to_b content happenings world = Runs (answered_by to_a (client_of scenario)) (answered_by to_b (server_of scenario content)) happenings (beginning scenario content) world

-- over RFCOMM its words lose, cut, repeat and damage nothing
abbrev pub IsGentle : Scenario → List Happening → Type 0
IsGentle scenario happenings = scenario.settings.transport ≡ Rfcomm → LosesNothing (all_words happenings)

-- Where a host holds credits at the end of each such run whose ports answer so: it holds some at each moment of such a run, over its capture.
abbrev pub CreditsAreKept : Type 0
CreditsAreKept = (scenario : Scenario) (to_a to_b : News → List Circumstance → List Circumstance) (content : Option Contents) (capture : List Entry) (side : Side) (ran : Ran scenario content capture) → HappenedWith scenario to_a to_b content ran.happenings ran.world
    → IsGentle scenario ran.happenings
    → ((front : List Entry) (run : Ran scenario content front) → HappenedWith scenario to_a to_b content run.happenings run.world → IsGentle scenario run.happenings → IsSolvent scenario.settings side front)
    → StaysSolvent scenario.settings side capture
