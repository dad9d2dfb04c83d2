-- Host a goes by what service discovery told it, over its capture alone (Object Push Profile 1.2, 4.3 and 5; Core 5.1, Volume 3 Part A, 4.2, and Part B,
-- 4.7; RFCOMM 1.2, 5.4).
use Rattle.std.specs.Prelude.{List, Option}
use Rattle.std.specs.List.{AllByRecursion}
use Rattle.pair_laws.specs.bt_base.specs.declared.settings.Settings.{Settings}
use Rattle.pair_laws.specs.bt_base.specs.Objects.{Contents}
use Rattle.pair_laws.specs.push_script.specs.declared.scenario.Scenario.{Scenario}
use Rattle.pair_laws.specs.push_terms.specs.declared.word.Side.TheVariants.{A}
use Rattle.pair_laws.specs.capture.specs.Entries.{Entry}
use Rattle.pair_laws.specs.link_talk.specs.Captures.{talks}
use Rattle.pair_laws.specs.host_laws.specs.Services.{GoesAsTold}
use Rattle.pair_laws.specs.scenario_laws.specs.Captures.{Ran}
use Rattle.pair_laws.specs.scenario_laws.specs.Parties.{party_of}

-- On each of its links it asks for no channel, and opens, uses and closes no data link connection, but as an answer told it there before.
abbrev pub UsesService : Settings → List Entry → Type 0
UsesService settings capture = AllByRecursion (GoesAsTold (party_of settings A) settings.transport) (talks A capture)

-- So it is in each run, wherever it broke off and whatever its ports answered, over either transport.
abbrev pub RunsUseService : Type 0
RunsUseService = (scenario : Scenario) (content : Option Contents) (capture : List Entry) → Ran scenario content capture → UsesService scenario.settings capture
