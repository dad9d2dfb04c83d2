-- That the channels of both hosts of a run go on while few words are adverse (Core 5.1, Volume 3 Part A, 4.4, 4.5, 4.6, 4.10, 6.2.1 and 8.6.5; which words are adverse is this project's own).
use Rattle.std.specs.Prelude.{ℕ, ◌<◌, List, Option}
use Rattle.pair_laws.specs.bt_base.specs.Objects.{Contents}
use Rattle.pair_laws.specs.capture.specs.Entries.{Entry}
use Rattle.pair_laws.specs.push_script.specs.declared.scenario.Scenario.{Scenario}
use Rattle.channel_laws.specs.channel_model.specs.Policies.{Policy}
use Rattle.channel_laws.specs.Pairs.{Turn}
use Rattle.staying_laws.specs.forgoing_laws.specs.Lasts.{AreOrderly, GoOn}
use Rattle.staying_laws.specs.Stays.{AnswerWell}
use Rattle.told_laws.specs.Told.{ToldMildly}
use Rattle.pair_laws.specs.world_model.specs.Worlds.{all_words}
use Rattle.pair_laws.specs.host_model.specs.Clients.{client_profile}
use Rattle.pair_laws.specs.host_model.specs.Servers.{server_profile}
use Rattle.pair_laws.specs.host_laws.specs.Calls.{HostsAsk}
use Rattle.pair_laws.specs.host_laws.specs.Keeping.{SendsAsItLends}
use Rattle.pair_laws.specs.host_laws.specs.Searching.{AsksAsItSteps}
use Rattle.pair_laws.specs.scenario_laws.specs.Captures.{Ran}
use Rattle.pair_laws.specs.Costs.{adverse_in, PairsCost}
use Rattle.pair_laws.specs.Within.{BothSendWithin}

-- something is so on each link of a run of which fewer words are adverse than its scenario has the hosts try
abbrev pub OnLinksOfFew : ((near far : Policy) → List Turn → Type 0) → Type 0
OnLinksOfFew P = (asks : HostsAsk) (scenario : Scenario) (content : Option Contents) (capture : List Entry) (ran : Ran scenario content capture) (pairs : PairsCost asks scenario content capture ran) → BothSendWithin asks
    → AsksAsItSteps scenario.settings (asks.clients scenario.settings) → SendsAsItLends scenario.settings content (asks.servers scenario.settings content) → adverse_in (all_words ran.happenings) < scenario.settings.tries → (number : ℕ)
    → P (client_profile scenario.settings).policy (server_profile scenario.settings content).policy (pairs.turns.pairs.pairs number).turns

-- There both hosts ask in order, and fewer turns upset than they try.
abbrev pub LinksAreOrderly : Type 0
LinksAreOrderly = OnLinksOfFew AreOrderly

-- Both answer all requests for options with success.
abbrev pub FewWordsAnswerWell : Type 0
FewWordsAnswerWell = OnLinksOfFew AnswerWell

-- Host b asks for the end of no channel, its requests for options and host a's for ends are responded to, host a gives up none of these, and each channel for whose end it did not ask remains at host b.
abbrev pub FewWordsGoOn : Type 0
FewWordsGoOn = OnLinksOfFew GoOn

-- And host a is told of no channel that host b closed, not that its question for features was lost, and of no limit that was met on a channel that remains at host b; and neither is told that the end of
-- a channel that it closed was lost.
abbrev pub FewWordsTellMildly : Type 0
FewWordsTellMildly = OnLinksOfFew ToldMildly
