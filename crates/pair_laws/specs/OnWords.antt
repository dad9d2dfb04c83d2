-- The turns of each link of both hosts of a run as words of the link (this project's own; which words are adverse is so too).
use Rattle.std.specs.Prelude.{ℕ, ◌≡◌, ◌≤◌, List, Option}
use Rattle.scenario_laws.specs.bt_base.specs.Objects.{Contents}
use Rattle.scenario_laws.specs.push_script.specs.declared.scenario.Scenario.{Scenario}
use Rattle.scenario_laws.specs.push_terms.specs.declared.word.Side.TheVariants as sides
use Rattle.scenario_laws.specs.capture.specs.Entries.{Entry}
use Rattle.channel_laws.specs.channel_model.specs.Policies.{Policy}
use Rattle.channel_laws.specs.Adverse.{disturbances}
use Rattle.channel_laws.specs.Pairs.{Turn, new_pair, pair_of}
use Rattle.passing_laws.specs.Words.{Word, turns_of, AreSilent, HaveBegun, all_wrongs}
use Rattle.scenario_laws.specs.world_model.specs.Worlds.{IsAtRest}
use Rattle.scenario_laws.specs.host_model.specs.Clients.{client_profile}
use Rattle.scenario_laws.specs.host_model.specs.Servers.{server_profile}
use Rattle.host_laws.specs.Calls.{HostsAsk}
use Rattle.scenario_laws.specs.Captures.{client_of, server_of, Ran}
use Rattle.pair_laws.specs.Costs.{PairsCost}
use Rattle.pair_laws.specs.OnLinks.{last_number}

-- The turns are those of words, each of which begins where both hosts are silent: a PDU is handed over, lost or damaged, or timers fire, and behind it both say all that they
-- have to say. The last word may not have ended. No more of them go wrong than turns disturb.
pub record AreWorded (near far : Policy) (turns : List Turn) : Type 0 where
  pub words : List Word
  pub turns_are : turns ≡ turns_of words
  pub begun : HaveBegun (new_pair near far) words
  pub wrong : all_wrongs words ≤ disturbances (new_pair near far) turns

-- So it is on each link of both hosts, whose turns cost words of the run. Where the run is at rest, both are silent on the link on which they are.
pub record PairsTakeWords (asks : HostsAsk) (scenario : Scenario) (content : Option Contents) (capture : List Entry) (ran : Ran scenario content capture) : Type 0 where
  pub cost : PairsCost asks scenario content capture ran
  pub worded : (number : ℕ) → AreWorded (client_profile scenario.settings).policy (server_profile scenario.settings content).policy (cost.turns.pairs.pairs number).turns
  pub rest : IsAtRest (client_of scenario) (server_of scenario content) ran.world
      → (let number : ℕ = last_number (client_profile scenario.settings) (asks.clients scenario.settings) sides.A capture ran.world.a.upper cost.turns.pairs.a in
      AreSilent (pair_of (client_profile scenario.settings).policy (server_profile scenario.settings content).policy (cost.turns.pairs.pairs number).turns))

-- So it is at each moment of each run, wherever it broke off.
abbrev pub LinksTakeWords : Type 0
LinksTakeWords = (asks : HostsAsk) (scenario : Scenario) (content : Option Contents) (capture : List Entry) (ran : Ran scenario content capture) → PairsTakeWords asks scenario content capture ran
