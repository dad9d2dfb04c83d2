-- How often the hosts of a run give their requests for options, against the words of the run (Core 5.1, Volume 3 Part A, 4.4 and 6.2.1).
use Rattle.std.specs.Prelude.{ℕ, List, Option}
use Rattle.pair_laws.specs.bt_base.specs.Objects.{Contents}
use Rattle.pair_laws.specs.push_script.specs.declared.scenario.Scenario.{Scenario}
use Rattle.pair_laws.specs.push_terms.specs.declared.word.Side.TheVariants as sides
use Rattle.pair_laws.specs.capture.specs.Entries.{Entry}
use Rattle.pair_laws.specs.channel_model.specs.declared.errand.Errand.TheVariants as errands
use Rattle.pair_laws.specs.world_model.specs.Worlds.{all_words}
use Rattle.pair_laws.specs.host_model.specs.Clients.{client_profile}
use Rattle.pair_laws.specs.host_model.specs.Servers.{server_profile}
use Rattle.pair_laws.specs.host_laws.specs.Calls.{HostsAsk}
use Rattle.pair_laws.specs.host_laws.specs.Keeping.{SendsAsItLends}
use Rattle.pair_laws.specs.host_laws.specs.Searching.{AsksAsItSteps}
use Rattle.pair_laws.specs.scenario_laws.specs.Captures.{Ran}
use Rattle.pair_laws.specs.Costs.{adverse_in, IsPaidBy, RequestsPaid}
use Rattle.pair_laws.specs.OnLinks.{happened_on}
use Rattle.pair_laws.specs.Within.{BothSendWithin}

-- On each link the requests for options of both hosts are paid, also those of host a for a channel that it leaves.
pub record OptionsPaid (asks : HostsAsk) (scenario : Scenario) (content : Option Contents) (capture : List Entry) (ran : Ran scenario content capture) : Type 0 where
  pub requests : RequestsPaid asks scenario content capture ran
  pub near : (number own : ℕ) → IsPaidBy (adverse_in (all_words ran.happenings)) (client_profile scenario.settings).policy
      (happened_on (client_profile scenario.settings) (asks.clients scenario.settings) sides.A capture ran.world.a.upper requests.pairs.turns.pairs.a number) (errands.Configuration own)
  pub far : (number own : ℕ) → IsPaidBy (adverse_in (all_words ran.happenings)) (server_profile scenario.settings content).policy
      (happened_on (server_profile scenario.settings content) (asks.servers scenario.settings content) sides.B capture ran.world.b.upper requests.pairs.turns.pairs.b number) (errands.Configuration own)

abbrev pub OptionsCostWords : Type 0
OptionsCostWords = (asks : HostsAsk) (scenario : Scenario) (content : Option Contents) (capture : List Entry) (ran : Ran scenario content capture)
    → BothSendWithin asks → AsksAsItSteps scenario.settings (asks.clients scenario.settings) → SendsAsItLends scenario.settings content (asks.servers scenario.settings content) → OptionsPaid asks scenario content capture ran
