-- Host b of a run answers the requests of service discovery that come to it (Core 5.1, Volume 3 Part B, 4.2 and 4.7).
use Rattle.std.specs.Prelude.{◌≡◌, true, false, List, length, Option}
use Rattle.pair_laws.specs.bt_base.specs.Objects.{Contents}
use Rattle.pair_laws.specs.capture.specs.Entries.{Entry}
use Rattle.pair_laws.specs.push_script.specs.declared.scenario.Scenario.{Scenario}
use Rattle.pair_laws.specs.channel_laws.specs.Pairs.{pair_of}
use Rattle.pair_laws.specs.channel_laws.specs.Runs.{run_of}
use Rattle.passing_laws.specs.Words.{AreSilent}
use Rattle.pair_laws.specs.world_model.specs.Worlds.{IsAtRest}
use Rattle.pair_laws.specs.host_model.specs.Clients.{client_profile}
use Rattle.pair_laws.specs.host_model.specs.Servers.{server_profile}
use Rattle.pair_laws.specs.host_laws.specs.Asked.{up_behind}
use Rattle.pair_laws.specs.host_laws.specs.Calls.{HostsAsk}
use Rattle.pair_laws.specs.scenario_laws.specs.Captures.{client_of, server_of, Ran}
use Rattle.pair_laws.specs.Costs.{PairsCost}
use Rattle.search_laws.specs.Searches.{awaits_reply, HappenedWithMemory}
use Rattle.paying_laws.specs.Answered.{HasSearches, AnswersEach}

-- Both hosts' channels are pairs whose turns cost words. While host a's client awaits a reply of service discovery its link is up. Where the run is at rest no channel of either host has anything to give; and where a link is
-- up, on which nothing but searches are known to host b, each of host b's channels took as many SDUs as came up there.
pub record PairsAnswer (asks : HostsAsk) (scenario : Scenario) (content : Option Contents) (capture : List Entry) (ran : Ran scenario content capture) : Type 0 where
  pub cost : PairsCost asks scenario content capture ran
  pub linked : awaits_reply ran.world.a.upper.profile.client ≡ true → up_behind false cost.turns.pairs.a.fed.so.lives.spans ≡ true
  pub silent : IsAtRest (client_of scenario) (server_of scenario content) ran.world
      → AreSilent (pair_of (client_profile scenario.settings).policy (server_profile scenario.settings content).policy (cost.turns.pairs.pairs (length cost.turns.pairs.a.fed.so.lives.spans)).turns)
  pub answers : IsAtRest (client_of scenario) (server_of scenario content) ran.world → up_behind false cost.turns.pairs.a.fed.so.lives.spans ≡ true
      → (let list = cost.turns.pairs.b.fed.so.lives.now in let policy = (server_profile scenario.settings content).policy in HasSearches (run_of policy list) → AnswersEach policy list)

-- So it is at each moment of each such run, over either transport, wherever it broke off.
pub record SearchesAreAnswered : Type 0 where
  pub asks : HostsAsk
  pub runs : (scenario : Scenario) (content : Option Contents) (capture : List Entry) (ran : Ran scenario content capture) → HappenedWithMemory scenario content ran.happenings ran.world → PairsAnswer asks scenario content capture ran
