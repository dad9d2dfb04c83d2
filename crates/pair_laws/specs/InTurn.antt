-- Links of both hosts of a run go side by side (Core 5.1, Volume 2 Part E, 7.7.3 and 7.7.5).
use Rattle.std.specs.Prelude.{ℕ, ◌≡◌, ◌≤◌, ◌+◌, true, false, List, ◌++◌, Option}
use Rattle.scenario_laws.specs.bt_base.specs.Objects.{Contents}
use Rattle.scenario_laws.specs.push_script.specs.declared.scenario.Scenario.{Scenario}
use Rattle.scenario_laws.specs.push_terms.specs.declared.word.Side.TheVariants as sides
use Rattle.scenario_laws.specs.capture.specs.Entries.{Entry}
use Rattle.scenario_laws.specs.host_model.specs.Clients.{ClientProfile, client_profile}
use Rattle.scenario_laws.specs.host_model.specs.Servers.{server_profile}
use Rattle.host_laws.specs.Asked.{AreAsked}
use Rattle.host_laws.specs.Calls.{HostsAsk}
use Rattle.host_laws.specs.Openings.{names_told}
use Rattle.scenario_laws.specs.Captures.{Ran}
use Rattle.pair_laws.specs.OnLinks.{last_number, ArePairs}

-- Both hosts' channels are pairs. Each link came up for host a where its client wanted one, and no push began on it. Host b never hears two
-- turns more of its link than host a: it does not leave a link of which host a has not heard. And what host a was told to push are the first objects of
-- the scenario, in their order.
pub record PairsInTurn (asks : HostsAsk) (scenario : Scenario) (content : Option Contents) (capture : List Entry) (ran : Ran scenario content capture) : Type 0 where
  pub pairs : ArePairs asks scenario content capture ran
  pub asked : (let A = client_profile scenario.settings in
      let lives = pairs.a.fed.so.lives in
      AreAsked A (asks.clients scenario.settings) (λ (profile : ClientProfile). A.wants_link profile ≡ true) false lives.spans lives.now lives.feeds A.first ran.world.a.upper.profile pairs.a.fed.fed)
  pub ahead : last_number (server_profile scenario.settings content) (asks.servers scenario.settings content) sides.B capture ran.world.b.upper pairs.b
      ≤ last_number (client_profile scenario.settings) (asks.clients scenario.settings) sides.A capture ran.world.a.upper pairs.a + 1
  pub named : (later : List (List ℕ)) × (scenario.names ≡ names_told pairs.a.fed.so.lives.feeds ++ later)

-- So it is at each moment of each run, wherever it broke off.
abbrev pub HostsTakeTurns : Type 0
HostsTakeTurns = (asks : HostsAsk) (scenario : Scenario) (content : Option Contents) (capture : List Entry) (ran : Ran scenario content capture) → PairsInTurn asks scenario content capture ran
