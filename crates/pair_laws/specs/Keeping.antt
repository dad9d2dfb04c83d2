-- Where the words of a run lose, repeat and damage nothing, each way of each link keeps its order (this project's own).
use Rattle.std.specs.Prelude.{ℕ, ◌≡◌, false, List, Option}
use Rattle.std.specs.List.{AllByRecursion}
use Rattle.scenario_laws.specs.bt_base.specs.Objects.{Contents}
use Rattle.scenario_laws.specs.push_script.specs.declared.scenario.Scenario.{Scenario}
use Rattle.scenario_laws.specs.push_script.specs.Runs.{is_lossy}
use Rattle.scenario_laws.specs.push_terms.specs.declared.word.Word.{Word}
use Rattle.scenario_laws.specs.capture.specs.Entries.{Entry}
use Rattle.channel_laws.specs.Ordered.{IsOrdered}
use Rattle.channel_laws.specs.Pairs.{Near, Far}
use Rattle.scenario_laws.specs.world_model.specs.Worlds.{all_words}
use Rattle.host_laws.specs.Calls.{HostsAsk}
use Rattle.scenario_laws.specs.Captures.{Ran}
use Rattle.pair_laws.specs.InTurn.{PairsInTurn}

-- no word loses, repeats, cuts or damages a frame, as in each script over RFCOMM
abbrev pub LosesNothing : List Word → Type 0
LosesNothing words = AllByRecursion (λ (word : Word). is_lossy word ≡ false) words

-- Both hosts' channels are pairs whose links go side by side; and on each link, each way hands over all in its order until it breaks.
pub record PairsKeepOrder (asks : HostsAsk) (scenario : Scenario) (content : Option Contents) (capture : List Entry) (ran : Ran scenario content capture) : Type 0 where
  pub turns : PairsInTurn asks scenario content capture ran
  pub near : (number : ℕ) → IsOrdered Near (turns.pairs.pairs number).turns
  pub far : (number : ℕ) → IsOrdered Far (turns.pairs.pairs number).turns

-- So it is at each moment of each run of such words, wherever it broke off.
abbrev pub RunsKeepOrder : Type 0
RunsKeepOrder = (asks : HostsAsk) (scenario : Scenario) (content : Option Contents) (capture : List Entry) (ran : Ran scenario content capture) → LosesNothing (all_words ran.happenings) → PairsKeepOrder asks scenario content capture ran
