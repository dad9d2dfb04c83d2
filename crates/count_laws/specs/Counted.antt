-- How many passes of a run find something on an enhanced channel of both hosts (Core 5.1, Volume 3 Part A, 8.6; the number is this project's own).
use Rattle.std.specs.Prelude.{ℕ, ◌≡◌, ◌≤◌, List, ◌++◌, Option, Some}
use Rattle.pair_laws.specs.bt_base.specs.Objects.{Contents}
use Rattle.pair_laws.specs.capture.specs.Entries.{Entry}
use Rattle.pair_laws.specs.ertm_model.specs.Value.{Ertm}
use Rattle.pair_laws.specs.push_script.specs.declared.scenario.Scenario.{Scenario}
use Rattle.pair_laws.specs.push_terms.specs.declared.word.Side.TheVariants as sides
use Rattle.pair_laws.specs.link_talk.specs.declared.channel.Channel.{Channel}
use Rattle.channel_laws.specs.channel_model.specs.Calls.{carrier_at}
use Rattle.channel_laws.specs.channel_model.specs.Policies.{Policy}
use Rattle.channel_laws.specs.channel_model.specs.Value.{Retransmitting}
use Rattle.channel_laws.specs.Pairs.{pair_of}
use Rattle.channel_laws.specs.Pipes.{HaveChannel}
use Rattle.passing_laws.specs.Channels.{IsCounted}
use Rattle.passing_laws.specs.Words.{Word, turns_of, AreSilent, all_wrongs}
use Rattle.pair_laws.specs.world_model.specs.Worlds.{IsAtRest, all_words}
use Rattle.pair_laws.specs.host_model.specs.Clients.{client_profile}
use Rattle.pair_laws.specs.host_model.specs.Servers.{server_profile}
use Rattle.pair_laws.specs.host_laws.specs.Calls.{HostsAsk}
use Rattle.pair_laws.specs.scenario_laws.specs.Captures.{client_of, server_of, Ran}
use Rattle.pair_laws.specs.Costs.{adverse_in}
use Rattle.pair_laws.specs.OnLinks.{last_number}
use Rattle.pair_laws.specs.OnWords.{PairsTakeWords}
use Rattle.pair_laws.specs.Within.{BothSendWithin}

-- ---- behind words of a link

-- The passes that found something on the channel are counted by its two ends, and no more of the words went wrong than so many.
pub record IsCountedIn (near far : Policy) (adverse : ℕ) (past : List Word) (channel : Channel) (near_machine far_machine : Ertm) : Type 0 where
  pub counted : IsCounted near far past channel near_machine far_machine
  pub few : all_wrongs past ≤ adverse

-- so it is of each enhanced channel that both hosts have open then
abbrev pub CountsAll : (near far : Policy) (adverse : ℕ) → List Word → Type 0
CountsAll near far adverse past = (channel : Channel) → HaveChannel near far (turns_of past) channel → (near_machine far_machine : Ertm) → carrier_at channel.own (pair_of near far (turns_of past)).near.run.value ≡ Some (Retransmitting near_machine)
    → carrier_at channel.peer (pair_of near far (turns_of past)).far.run.value ≡ Some (Retransmitting far_machine) → IsCountedIn near far adverse past channel near_machine far_machine

-- ---- the laws

-- At each moment of each link at which both hosts are silent, against the adverse words of the run, wherever it broke off.
abbrev pub RunsRecover : Type 0
RunsRecover = (asks : HostsAsk) (scenario : Scenario) (content : Option Contents) (capture : List Entry) (ran : Ran scenario content capture) (taken : PairsTakeWords asks scenario content capture ran) → BothSendWithin asks
    → (number : ℕ) (past later : List Word) → (taken.worded number).words ≡ past ++ later → AreSilent (pair_of (client_profile scenario.settings).policy (server_profile scenario.settings content).policy (turns_of past))
    → CountsAll (client_profile scenario.settings).policy (server_profile scenario.settings content).policy (adverse_in (all_words ran.happenings)) past

-- And where the run is at rest, behind all words of the link on which both hosts are.
abbrev pub RestsRecover : Type 0
RestsRecover = (asks : HostsAsk) (scenario : Scenario) (content : Option Contents) (capture : List Entry) (ran : Ran scenario content capture) (taken : PairsTakeWords asks scenario content capture ran) → BothSendWithin asks
    → IsAtRest (client_of scenario) (server_of scenario content) ran.world
    → (let number : ℕ = last_number (client_profile scenario.settings) (asks.clients scenario.settings) sides.A capture ran.world.a.upper taken.cost.turns.pairs.a in
    CountsAll (client_profile scenario.settings).policy (server_profile scenario.settings content).policy (adverse_in (all_words ran.happenings)) (taken.worded number).words)
