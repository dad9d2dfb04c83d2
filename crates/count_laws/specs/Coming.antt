-- How many PDUs come in on a link of a run, against the words of the link (this project's own).
use Rattle.std.specs.Prelude.{ℕ, ◌+◌, ◌≤◌, List, [], ◌∷◌, Option}
use Rattle.pair_laws.specs.bt_base.specs.Objects.{Contents}
use Rattle.pair_laws.specs.capture.specs.Entries.{Entry}
use Rattle.pair_laws.specs.push_script.specs.declared.scenario.Scenario.{Scenario}
use Rattle.pair_laws.specs.push_terms.specs.declared.word.Side.TheVariants as sides
use Rattle.channel_laws.specs.Runs.{Occurrence, Comes, Connects, AsksFeatures, Disconnects, Sends, Gives, Fires, Tells}
use Rattle.channel_laws.specs.Tries.{one_if}
use Rattle.passing_laws.specs.Words.{Onset, ByTurn, ByTimers, Word, is_handed, all_wrongs}
use Rattle.pair_laws.specs.host_model.specs.Clients.{client_profile}
use Rattle.pair_laws.specs.host_model.specs.Servers.{server_profile}
use Rattle.pair_laws.specs.host_laws.specs.Calls.{HostsAsk}
use Rattle.pair_laws.specs.scenario_laws.specs.Captures.{Ran}
use Rattle.pair_laws.specs.OnLinks.{happened_on}
use Rattle.pair_laws.specs.OnWords.{PairsTakeWords}

-- a PDU is handed over and goes
abbrev pub takes_by : Onset → ℕ
takes_by (ByTurn turn) = one_if (is_handed turn.happening)
takes_by (ByTimers timers) = 0

abbrev pub takes_in : List Word → ℕ
takes_in [] = 0
takes_in (word ∷ words) = takes_by word.onset + takes_in words

-- a PDU comes in
abbrev pub comes_by : Occurrence → ℕ
comes_by (Comes pdu) = 1
comes_by (Connects psm) = 0
comes_by AsksFeatures = 0
comes_by (Disconnects own) = 0
comes_by (Sends own sdu) = 0
comes_by (Gives pdu) = 0
comes_by Fires = 0
comes_by Tells = 0

abbrev pub comes_in : List Occurrence → ℕ
comes_in [] = 0
comes_in (one ∷ list) = comes_by one + comes_in list

-- On each link of a run no more PDUs come in at both hosts together than words of it hand one over, and than words of it go wrong.
abbrev pub LinksHearByWords : Type 0
LinksHearByWords = (asks : HostsAsk) (scenario : Scenario) (content : Option Contents) (capture : List Entry) (ran : Ran scenario content capture) (taken : PairsTakeWords asks scenario content capture ran) (number : ℕ)
    → comes_in (happened_on (client_profile scenario.settings) (asks.clients scenario.settings) sides.A capture ran.world.a.upper taken.cost.turns.pairs.a number)
    + comes_in (happened_on (server_profile scenario.settings content) (asks.servers scenario.settings content) sides.B capture ran.world.b.upper taken.cost.turns.pairs.b number)
    ≤ takes_in (taken.worded number).words + all_wrongs (taken.worded number).words
