-- How often the hosts of a run give their requests, whatever these are for, against the words of the run (Core 5.1, Volume 3 Part A, 6.2.1).
use Rattle.std.specs.Prelude.{ℕ, List, Option}
use Rattle.pair_laws.specs.bt_base.specs.Objects.{Contents}
use Rattle.pair_laws.specs.bt_base.specs.declared.settings.Settings.{Settings}
use Rattle.pair_laws.specs.push_script.specs.declared.scenario.Scenario.{Scenario}
use Rattle.pair_laws.specs.push_terms.specs.declared.word.Side.{Side}
use Rattle.pair_laws.specs.push_terms.specs.declared.word.Side.TheVariants as sides
use Rattle.pair_laws.specs.capture.specs.Entries.{Entry}
use Rattle.pair_laws.specs.channel_model.specs.declared.errand.Errand.{Errand}
use Rattle.pair_laws.specs.world_model.specs.Worlds.{all_words}
use Rattle.pair_laws.specs.host_model.specs.Clients.{client_profile}
use Rattle.pair_laws.specs.host_model.specs.Servers.{server_profile}
use Rattle.pair_laws.specs.host_laws.specs.Calls.{HostsAsk}
use Rattle.pair_laws.specs.host_laws.specs.Keeping.{SendsAsItLends}
use Rattle.pair_laws.specs.host_laws.specs.Searching.{AsksAsItSteps}
use Rattle.pair_laws.specs.scenario_laws.specs.Captures.{Ran}
use Rattle.pair_laws.specs.Costs.{adverse_in, IsPaidBy, RequestsPaid}
use Rattle.pair_laws.specs.OnLinks.{happened_on}
use Rattle.pair_laws.specs.Within.{BothSendWithin}

-- a host's request of a kind, on one of its links, is given for the t-th time only behind t - 1 adverse words of the run
abbrev pub IsPaidOn : (asks : HostsAsk) (scenario : Scenario) (content : Option Contents) (capture : List Entry) (ran : Ran scenario content capture) → RequestsPaid asks scenario content capture ran → Side → (number : ℕ) → Errand → Type 0
IsPaidOn asks scenario content capture ran requests sides.A number errand = IsPaidBy (adverse_in (all_words ran.happenings)) (client_profile scenario.settings).policy
    (happened_on (client_profile scenario.settings) (asks.clients scenario.settings) sides.A capture ran.world.a.upper requests.pairs.turns.pairs.a number) errand
IsPaidOn asks scenario content capture ran requests sides.B number errand = IsPaidBy (adverse_in (all_words ran.happenings)) (server_profile scenario.settings content).policy
    (happened_on (server_profile scenario.settings content) (asks.servers scenario.settings content) sides.B capture ran.world.b.upper requests.pairs.turns.pairs.b number) errand

-- So is each request of both hosts, on each link: for a channel, its options, its end, and the peer's features.
pub record AllPaid (asks : HostsAsk) (scenario : Scenario) (content : Option Contents) (capture : List Entry) (ran : Ran scenario content capture) : Type 0 where
  pub requests : RequestsPaid asks scenario content capture ran
  pub paid : (side : Side) (number : ℕ) (errand : Errand) → IsPaidOn asks scenario content capture ran requests side number errand

-- What both hosts ask of their channels, a client as it steps, a server as it lends, and each within what the peer takes: so all is paid in each run, wherever it broke off.
pub record RunsPayRequests : Type 0 where
  pub asks : HostsAsk
  pub steps : (settings : Settings) → AsksAsItSteps settings (asks.clients settings)
  pub sends : (settings : Settings) (content : Option Contents) → SendsAsItLends settings content (asks.servers settings content)
  pub within : BothSendWithin asks
  pub all : (scenario : Scenario) (content : Option Contents) (capture : List Entry) (ran : Ran scenario content capture) → AllPaid asks scenario content capture ran
