-- What the requests for service records cost of which none was replied to (Core 5.1, Volume 3 Part B, 4.2; which words are adverse is this project's own).
use Rattle.std.specs.Prelude.{◌≡◌, ◌≤◌, ◌<◌, [], List, true, false, length, Option}
use Rattle.pair_laws.specs.bt_base.specs.Objects.{Contents}
use Rattle.pair_laws.specs.capture.specs.Entries.{Entry}
use Rattle.pair_laws.specs.push_script.specs.declared.scenario.Scenario.{Scenario}
use Rattle.pair_laws.specs.link_talk.specs.declared.channel.Channel.{Channel}
use Rattle.pair_laws.specs.channel_model.specs.Policies.{Policy}
use Rattle.pair_laws.specs.channel_model.specs.Value.{no_channels}
use Rattle.pair_laws.specs.channel_laws.specs.Common.{mirrored}
use Rattle.pair_laws.specs.channel_laws.specs.Pairs.{Turn, turned, pair_of}
use Rattle.pair_laws.specs.channel_laws.specs.Pipes.{HaveChannel}
use Rattle.pair_laws.specs.channel_laws.specs.Runs.{run_of}
use Rattle.pair_laws.specs.push_model.specs.Events.{search_psm}
use Rattle.pair_laws.specs.world_model.specs.Worlds.{Happening, all_words, IsAtRest}
use Rattle.pair_laws.specs.host_model.specs.Clients.{client_profile}
use Rattle.pair_laws.specs.host_model.specs.Servers.{server_profile}
use Rattle.pair_laws.specs.host_laws.specs.Asked.{up_behind}
use Rattle.pair_laws.specs.host_laws.specs.Calls.{HostsAsk}
use Rattle.pair_laws.specs.scenario_laws.specs.Captures.{client_of, server_of, Ran}
use Rattle.pair_laws.specs.Costs.{adverse_in, PairsCost}
use Rattle.pair_laws.specs.InTurn.{PairsInTurn}
use Rattle.retry_laws.specs.Counted.{HasStill, count_taken, count_come}
use Rattle.search_laws.specs.Searches.{awaits_reply, HappenedWithMemory, QuietIsPaid}
use Rattle.search_laws.specs.Taken.{searches_taken, TakesOnLink}
use Rattle.paying_laws.specs.Answered.{HasSearches}
use Rattle.paying_laws.specs.Runs.{SearchesAreAnswered}

-- two hosts have a channel to the service records in common, neither asked for its end, and nothing came up there for the near one
pub record IsUnanswered (near far : Policy) (turns : List Turn) (channel : Channel) : Type 0 where
  pub psm_is : channel.psm ≡ search_psm
  pub have : HaveChannel near far turns channel
  pub near_still : HasStill channel.own (pair_of near far turns).near.run.value
  pub far_still : HasStill channel.peer (pair_of near far turns).far.run.value
  pub none_came : count_come (mirrored channel) (turned (pair_of near far turns)) ≡ 0

-- the channel of host a took no more requests than words of the run were adverse
abbrev pub TookAsPaid : (scenario : Scenario) (content : Option Contents) (capture : List Entry) (ran : Ran scenario content capture) (answered : SearchesAreAnswered) → PairsCost answered.asks scenario content capture ran → Channel → Type 0
TookAsPaid scenario content capture ran answered cost channel =
    count_taken (client_profile scenario.settings).policy channel cost.turns.pairs.a.fed.so.lives.now ≤ adverse_in (all_words ran.happenings)

-- Where a run whose inbox does not lack memory is at rest, nothing is under way, and a link is up on which nothing but searches are known to host b: so it is of each channel of it that is unanswered.
pub record SearchesArePaid : Type 0 where
  pub answered : SearchesAreAnswered
  pub paid : (scenario : Scenario) (content : Option Contents) (capture : List Entry) (ran : Ran scenario content capture) (happened : HappenedWithMemory scenario content ran.happenings ran.world) → (let cost = (answered.runs scenario content capture ran happened).cost in let pairs = cost.turns.pairs in let lives = pairs.a.fed.so.lives in
      let near = (client_profile scenario.settings).policy in let far = (server_profile scenario.settings content).policy in
      IsAtRest (client_of scenario) (server_of scenario content) ran.world → ran.world.radio.a.waiting ≡ [] → ran.world.radio.b.waiting ≡ [] → up_behind false lives.spans ≡ true → HasSearches (run_of far pairs.b.fed.so.lives.now)
      → (channel : Channel) → IsUnanswered near far (pairs.pairs (length lives.spans)).turns channel → TookAsPaid scenario content capture ran answered cost channel)

-- ---- the requests of the client

-- Host a has such a channel, which took all requests that the client's channels to the service records took on the link; and nothing but searches are known to host b.
pub record SearchStands (scenario : Scenario) (content : Option Contents) (capture : List Entry) (ran : Ran scenario content capture) (asks : HostsAsk) (turns : PairsInTurn asks scenario content capture ran)
    (link : TakesOnLink scenario.settings (asks.clients scenario.settings) turns.pairs.a.fed.so.lives.now ran.world.a.upper.profile) : Type 0 where
  pub channel : Channel
  pub unanswered : IsUnanswered (client_profile scenario.settings).policy (server_profile scenario.settings content).policy (turns.pairs.pairs (length turns.pairs.a.fed.so.lives.spans)).turns channel
  pub all : length (searches_taken scenario.settings (asks.clients scenario.settings) link.woven.weave no_channels link.first) ≤ count_taken (client_profile scenario.settings).policy channel turns.pairs.a.fed.so.lives.now
  pub alone : HasSearches (run_of (server_profile scenario.settings content).policy turns.pairs.b.fed.so.lives.now)

-- So it is at each such rest at which its request awaits the reply, while fewer words were adverse than the scenario has the hosts try.
abbrev pub SearchesStand : HostsAsk → Scenario → Option Contents → Type 0
SearchesStand asks scenario content = (capture : List Entry) (ran : Ran scenario content capture) → HappenedWithMemory scenario content ran.happenings ran.world → IsAtRest (client_of scenario) (server_of scenario content) ran.world → ran.world.radio.a.waiting ≡ [] → ran.world.radio.b.waiting ≡ []
    → awaits_reply ran.world.a.upper.profile.client ≡ true → adverse_in (all_words ran.happenings) < scenario.settings.tries → (turns : PairsInTurn asks scenario content capture ran)
    → (link : TakesOnLink scenario.settings (asks.clients scenario.settings) turns.pairs.a.fed.so.lives.now ran.world.a.upper.profile) → SearchStands scenario content capture ran asks turns link

-- Then each request of a run that awaits its reply at such a rest is paid.
pub record StandingSearchesArePaid : Type 0 where
  pub asks : HostsAsk
  pub quiet : (scenario : Scenario) (content : Option Contents) (happenings : List Happening) → SearchesStand asks scenario content → QuietIsPaid scenario content happenings
