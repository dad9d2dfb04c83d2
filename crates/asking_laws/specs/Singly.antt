-- That host a of a run asks for the end of one channel at a time, with a new identifier each (Core 5.1, Volume 3 Part A, 4 and 4.6).
use Rattle.std.specs.Prelude.{ℕ, false, List, [], Option}
use Rattle.std.specs.List.{AllByRecursion, flat_map}
use Rattle.pair_laws.specs.bt_base.specs.Objects.{Contents}
use Rattle.pair_laws.specs.bt_base.specs.declared.settings.Settings.{Settings}
use Rattle.pair_laws.specs.capture.specs.Entries.{Entry}
use Rattle.pair_laws.specs.capture.specs.Histories.{EachAfter}
use Rattle.pair_laws.specs.push_script.specs.declared.scenario.Scenario.{Scenario}
use Rattle.pair_laws.specs.channel_model.specs.Policies.{Policy, policy}
use Rattle.channel_laws.specs.Pairs.{Near, Turn, pair_of}
use Rattle.channel_laws.specs.Runs.{Occurrence, run_of}
use Rattle.lateness_laws.specs.Once.{CountsOne}
use Rattle.identifier_laws.specs.disconnection_laws.specs.Met.{AskInOrder}
use Rattle.pair_laws.specs.world_model.specs.Talks.{Talk}
use Rattle.pair_laws.specs.host_model.specs.Clients.{ClientProfile, client_profile}
use Rattle.pair_laws.specs.host_model.specs.Hosts.{Host}
use Rattle.pair_laws.specs.host_model.specs.Servers.{server_profile}
use Rattle.pair_laws.specs.host_laws.specs.Calls.{Asks, HostsAsk}
use Rattle.pair_laws.specs.host_laws.specs.Keeping.{SendsAsItLends}
use Rattle.pair_laws.specs.host_laws.specs.Lives.{on_links}
use Rattle.pair_laws.specs.host_laws.specs.OverLinks.{talk_marks}
use Rattle.pair_laws.specs.host_laws.specs.Searching.{AsksAsItSteps}
use Rattle.pair_laws.specs.host_laws.specs.Woven.{TalksWoven}
use Rattle.pair_laws.specs.scenario_laws.specs.Captures.{Ran}
use Rattle.pair_laws.specs.InTurn.{PairsInTurn}

-- ---- the client

-- no two channels count at each moment, and behind all
abbrev pub HoldsOne : Settings → List Occurrence → Type 0
HoldsOne settings list = EachAfter (λ front one. CountsOne (run_of (policy settings false) front).value) [] list × CountsOne (run_of (policy settings false) list).value

-- Whatever happens to a client, so it is on each of its links: it asks for a channel when no channel counts.
abbrev pub ClientsHoldOne : Type 0
ClientsHoldOne = (settings : Settings) (asks : Asks (client_profile settings)) (talk : List Talk) (now : Host ClientProfile) → AsksAsItSteps settings asks → (woven : TalksWoven (client_profile settings) asks talk now)
    → AllByRecursion (HoldsOne settings) (on_links (client_profile settings) asks (flat_map talk_marks talk) now woven.so.lives)

-- ---- both hosts

-- So on each link of a run no two channels of host a count, at each moment of it, and behind all.
abbrev pub OneCountsOnLinks : Type 0
OneCountsOnLinks = (asks : HostsAsk) (scenario : Scenario) (content : Option Contents) (capture : List Entry) (ran : Ran scenario content capture) (turns : PairsInTurn asks scenario content capture ran) → AsksAsItSteps scenario.settings (asks.clients scenario.settings) → (number : ℕ)
    → (let near : Policy = (client_profile scenario.settings).policy in
    let far : Policy = (server_profile scenario.settings content).policy in
    let list : List Turn = (turns.pairs.pairs number).turns in EachAfter (λ past turn. CountsOne (pair_of near far past).near.run.value) [] list × CountsOne (pair_of near far list).near.run.value)

-- On each link of a run, at each moment of it: of host a's requests for ends of channels one waits at most, the identifiers of its requests that wait are apart, and
-- a request for an end waited before, or it has an identifier that was not given before.
abbrev pub EndsAreAskedSingly : Type 0
EndsAreAskedSingly = (asks : HostsAsk) (scenario : Scenario) (content : Option Contents) (capture : List Entry) (ran : Ran scenario content capture) (turns : PairsInTurn asks scenario content capture ran)
    → AsksAsItSteps scenario.settings (asks.clients scenario.settings) → SendsAsItLends scenario.settings content (asks.servers scenario.settings content) → (number : ℕ)
    → AskInOrder Near (client_profile scenario.settings).policy (server_profile scenario.settings content).policy (turns.pairs.pairs number).turns
