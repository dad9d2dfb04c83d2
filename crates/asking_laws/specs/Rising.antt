-- That the identifiers of the requests of both hosts of a run do not come round on a link (Core 5.1, Volume 3 Part A, 4).
use Rattle.std.specs.Prelude.{ℕ, List, Option}
use Rattle.pair_laws.specs.bt_base.specs.Objects.{Contents}
use Rattle.pair_laws.specs.capture.specs.Entries.{Entry}
use Rattle.pair_laws.specs.push_script.specs.declared.scenario.Scenario.{Scenario}
use Rattle.channel_laws.specs.Pairs.{Side}
use Rattle.configuration_laws.specs.Met.{IdentifiersRise}
use Rattle.pair_laws.specs.host_model.specs.Clients.{client_profile}
use Rattle.pair_laws.specs.host_model.specs.Servers.{server_profile}
use Rattle.pair_laws.specs.host_laws.specs.Calls.{HostsAsk}
use Rattle.pair_laws.specs.host_laws.specs.Keeping.{SendsAsItLends}
use Rattle.pair_laws.specs.host_laws.specs.Searching.{AsksAsItSteps}
use Rattle.pair_laws.specs.scenario_laws.specs.Captures.{Ran}
use Rattle.pair_laws.specs.InTurn.{PairsInTurn}

-- On each link of a run, at each moment of it: the identifier that a host gives next never falls. So no identifier of either host comes round.
abbrev pub IdentifiersRiseOnLinks : Type 0
IdentifiersRiseOnLinks = (asks : HostsAsk) (scenario : Scenario) (content : Option Contents) (capture : List Entry) (ran : Ran scenario content capture) (turns : PairsInTurn asks scenario content capture ran)
    → AsksAsItSteps scenario.settings (asks.clients scenario.settings) → SendsAsItLends scenario.settings content (asks.servers scenario.settings content) → (side : Side) (number : ℕ)
    → IdentifiersRise side (client_profile scenario.settings).policy (server_profile scenario.settings content).policy (turns.pairs.pairs number).turns
