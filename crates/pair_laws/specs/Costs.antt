-- How often a host of a run gives its own requests on a link, against the words of the run (Core 5.1, Volume 3 Part A, 6.2.1; which words
-- are adverse is this project's own).
use Rattle.std.specs.Prelude.{ℕ, ◌≡◌, ◌<◌, ◌≤◌, ◌+◌, Bool, true, false, List, [], ◌∷◌, Option, Some}
use Rattle.std.specs.List.{AllByRecursion}
use Rattle.scenario_laws.specs.bt_base.specs.Objects.{Contents}
use Rattle.scenario_laws.specs.push_script.specs.declared.scenario.Scenario.{Scenario}
use Rattle.scenario_laws.specs.push_terms.specs.declared.word.Side.TheVariants as sides
use Rattle.scenario_laws.specs.push_terms.specs.declared.word.Word.{Word}
use Rattle.scenario_laws.specs.push_terms.specs.declared.word.Word.TheVariants.{Pass, Lose, Repeat, Damage, Cut, Timer, Drop, Cancel}
use Rattle.scenario_laws.specs.capture.specs.Entries.{Entry}
use Rattle.channel_laws.specs.channel_model.specs.declared.errand.Errand.{Errand}
use Rattle.channel_laws.specs.channel_model.specs.declared.errand.Errand.TheVariants as errands
use Rattle.channel_laws.specs.channel_model.specs.Policies.{Policy}
use Rattle.channel_laws.specs.channel_model.specs.Value.{Request}
use Rattle.channel_laws.specs.Adverse.{disturbances, AreRoomy}
use Rattle.channel_laws.specs.Heeded.{AreMet}
use Rattle.recovered_laws.specs.Calm.{AreSettled}
use Rattle.channel_laws.specs.Pairs.{Near, Far, new_pair}
use Rattle.channel_laws.specs.Runs.{Occurrence, run_of}
use Rattle.channel_laws.specs.Tries.{request_of, one_if, copies}
use Rattle.scenario_laws.specs.world_model.specs.Worlds.{all_words}
use Rattle.scenario_laws.specs.host_model.specs.Clients.{client_profile}
use Rattle.scenario_laws.specs.host_model.specs.Servers.{server_profile}
use Rattle.host_laws.specs.Calls.{HostsAsk}
use Rattle.host_laws.specs.Keeping.{AsksForNothing, SendsAsItLends}
use Rattle.host_laws.specs.Searching.{AsksAsItSteps}
use Rattle.scenario_laws.specs.Captures.{Ran}
use Rattle.pair_laws.specs.InTurn.{PairsInTurn}
use Rattle.pair_laws.specs.OnLinks.{happened_on}
use Rattle.pair_laws.specs.Waits.{NoneEverWaits}

-- ---- words

-- a word is adverse that loses, repeats, changes or cuts a frame, and one that fires a timer
abbrev pub is_adverse : Word → Bool
is_adverse Pass = false
is_adverse (Lose way) = true
is_adverse (Repeat way) = true
is_adverse (Damage way place mask) = true
is_adverse (Cut way packets) = true
is_adverse (Timer side) = true
is_adverse Drop = false
is_adverse Cancel = false

abbrev pub adverse_in : List Word → ℕ
adverse_in [] = 0
adverse_in (word ∷ words) = one_if (is_adverse word) + adverse_in words

-- ---- turns

-- Both hosts' channels are pairs whose links go side by side. On each link at most so many turns disturb as words of the run are adverse: a
-- `pass` that finds nothing in the air fires both timers while the link is quiet. And when something comes in, an answer has room. When a timer fires,
-- no channel of its host has anything to give, no command of its host waits to be given, and no machine of the other owes it a reply.
pub record PairsCost (asks : HostsAsk) (scenario : Scenario) (content : Option Contents) (capture : List Entry) (ran : Ran scenario content capture) : Type 0 where
  pub turns : PairsInTurn asks scenario content capture ran
  pub cost : (number : ℕ) → (let near : Policy = (client_profile scenario.settings).policy in let far : Policy = (server_profile scenario.settings content).policy in
      disturbances (new_pair near far) (turns.pairs.pairs number).turns ≤ adverse_in (all_words ran.happenings))
  pub room : (number : ℕ) → AreRoomy (client_profile scenario.settings).policy (server_profile scenario.settings content).policy (turns.pairs.pairs number).turns
  pub settled : (number : ℕ) → AreSettled (client_profile scenario.settings).policy (server_profile scenario.settings content).policy (turns.pairs.pairs number).turns
  pub none_waits : (number : ℕ) → NoneEverWaits (client_profile scenario.settings).policy (server_profile scenario.settings content).policy (turns.pairs.pairs number).turns

-- So it is at each moment of each run, wherever it broke off.
abbrev pub DisturbancesCostWords : Type 0
DisturbancesCostWords = (asks : HostsAsk) (scenario : Scenario) (content : Option Contents) (capture : List Entry) (ran : Ran scenario content capture) → PairsCost asks scenario content capture ran

-- ---- requests

-- a request of a host that waits was given, with the copies of it that wait, at most once more often than so many words were adverse
abbrev pub IsPaidBy : (adverse : ℕ) → Policy → List Occurrence → Errand → Type 0
IsPaidBy adverse policy list errand = (request : Request) → request_of errand (run_of policy list).value ≡ Some request → copies errand (run_of policy list).value.queue + request.given ≤ 1 + adverse

-- On each link of both hosts each request of a kind is given for the t-th time only behind t - 1 adverse words of the run. So are host a's question for
-- features and its requests for channels. Of host b there are none of these: its profile asks for nothing. And so is each request for options, or for the end
-- of a channel, of which, while fewer words were adverse than the hosts try, each copy that comes in is responded to and each response ends the wait.
pub record RequestsPaid (asks : HostsAsk) (scenario : Scenario) (content : Option Contents) (capture : List Entry) (ran : Ran scenario content capture) : Type 0 where
  pub pairs : PairsCost asks scenario content capture ran
  pub near_features : (number : ℕ) → IsPaidBy (adverse_in (all_words ran.happenings)) (client_profile scenario.settings).policy
      (happened_on (client_profile scenario.settings) (asks.clients scenario.settings) sides.A capture ran.world.a.upper pairs.turns.pairs.a number) errands.Features
  pub near_calls : (number own : ℕ) → IsPaidBy (adverse_in (all_words ran.happenings)) (client_profile scenario.settings).policy
      (happened_on (client_profile scenario.settings) (asks.clients scenario.settings) sides.A capture ran.world.a.upper pairs.turns.pairs.a number) (errands.Connection own)
  pub far_asks : (number : ℕ) → AllByRecursion AsksForNothing (happened_on (server_profile scenario.settings content) (asks.servers scenario.settings content) sides.B capture ran.world.b.upper pairs.turns.pairs.b number)
  pub near : (number : ℕ) (errand : Errand)
      → (adverse_in (all_words ran.happenings) < scenario.settings.tries → AreMet errand Near (client_profile scenario.settings).policy (server_profile scenario.settings content).policy (pairs.turns.pairs.pairs number).turns)
      → IsPaidBy (adverse_in (all_words ran.happenings)) (client_profile scenario.settings).policy
      (happened_on (client_profile scenario.settings) (asks.clients scenario.settings) sides.A capture ran.world.a.upper pairs.turns.pairs.a number) errand
  pub far : (number : ℕ) (errand : Errand)
      → (adverse_in (all_words ran.happenings) < scenario.settings.tries → AreMet errand Far (client_profile scenario.settings).policy (server_profile scenario.settings content).policy (pairs.turns.pairs.pairs number).turns)
      → IsPaidBy (adverse_in (all_words ran.happenings)) (server_profile scenario.settings content).policy
      (happened_on (server_profile scenario.settings content) (asks.servers scenario.settings content) sides.B capture ran.world.b.upper pairs.turns.pairs.b number) errand

-- the profiles ask as they step, and lend
abbrev pub RequestsCostWords : Type 0
RequestsCostWords = (asks : HostsAsk) (scenario : Scenario) (content : Option Contents) (capture : List Entry) (ran : Ran scenario content capture)
    → AsksAsItSteps scenario.settings (asks.clients scenario.settings) → SendsAsItLends scenario.settings content (asks.servers scenario.settings content) → RequestsPaid asks scenario content capture ran
