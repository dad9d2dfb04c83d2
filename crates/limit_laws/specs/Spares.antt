-- On which channels host a of a run meets no limit while few words are adverse (Core 5.1, Volume 3 Part A, 4.6, 6.2.1 and 8.6.5; which words are adverse is this project's own).
use Rattle.std.specs.Prelude.{ℕ, ◌<◌, List, [], ◌∷◌, ◌++◌, Option}
use Rattle.pair_laws.specs.bt_base.specs.Objects.{Contents}
use Rattle.pair_laws.specs.capture.specs.Entries.{Entry}
use Rattle.pair_laws.specs.capture.specs.Histories.{EachAfter}
use Rattle.pair_laws.specs.push_script.specs.declared.scenario.Scenario.{Scenario}
use Rattle.pair_laws.specs.push_terms.specs.declared.word.Side.TheVariants as sides
use Rattle.channel_laws.specs.channel_model.specs.Policies.{Policy}
use Rattle.channel_laws.specs.Runs.{Occurrence, run_of}
use Rattle.told_laws.specs.Limits.{LimitsNone}
use Rattle.pair_laws.specs.world_model.specs.Worlds.{all_words}
use Rattle.pair_laws.specs.host_model.specs.Clients.{client_profile}
use Rattle.pair_laws.specs.host_laws.specs.Calls.{HostsAsk}
use Rattle.pair_laws.specs.host_laws.specs.Keeping.{SendsAsItLends}
use Rattle.pair_laws.specs.host_laws.specs.Searching.{AsksAsItSteps}
use Rattle.pair_laws.specs.scenario_laws.specs.Captures.{Ran}
use Rattle.pair_laws.specs.Costs.{adverse_in, PairsCost}
use Rattle.pair_laws.specs.OnLinks.{happened_on}
use Rattle.pair_laws.specs.Within.{BothSendWithin}

-- at each moment of what happened to the channels of a host
abbrev pub LimitNone : Policy → List Occurrence → Type 0
LimitNone policy list = EachAfter (λ front one. LimitsNone (run_of policy front) (run_of policy (front ++ one ∷ []))) [] list

-- On each link of a run of which fewer words are adverse than its scenario has the hosts try, host a is told nothing but what is mild, and of no limit on a channel for whose end it did not ask, or that was
-- open in basic mode before: at each moment of what happened to its channels there.
abbrev pub FewWordsLimitNone : Type 0
FewWordsLimitNone = (asks : HostsAsk) (scenario : Scenario) (content : Option Contents) (capture : List Entry) (ran : Ran scenario content capture) (pairs : PairsCost asks scenario content capture ran) → BothSendWithin asks
    → AsksAsItSteps scenario.settings (asks.clients scenario.settings) → SendsAsItLends scenario.settings content (asks.servers scenario.settings content) → adverse_in (all_words ran.happenings) < scenario.settings.tries → (number : ℕ)
    → LimitNone (client_profile scenario.settings).policy (happened_on (client_profile scenario.settings) (asks.clients scenario.settings) sides.A capture ran.world.a.upper pairs.turns.pairs.a number)
