-- What the retransmission machines of both hosts of a run withstand, against the words of the run (Core 5.1, Volume 3 Part A, 8.6.5; which words are adverse is
-- this project's own).
use Rattle.std.specs.Prelude.{ℕ, ◌≡◌, ◌≤◌, ◌<◌, ◌==◌, true, List, ◌∷◌, ◌++◌, Option, Some, None}
use Rattle.pair_laws.specs.acl_fragments.specs.Pieces.{channel_of}
use Rattle.pair_laws.specs.bt_base.specs.Objects.{Contents}
use Rattle.pair_laws.specs.capture.specs.Entries.{Entry}
use Rattle.pair_laws.specs.ertm_model.specs.Giving.{timed}
use Rattle.pair_laws.specs.ertm_model.specs.Value.{Ertm}
use Rattle.pair_laws.specs.push_script.specs.declared.scenario.Scenario.{Scenario}
use Rattle.pair_laws.specs.link_talk.specs.declared.channel.Channel.{Channel}
use Rattle.channel_laws.specs.channel_model.specs.Calls.{carrier_at}
use Rattle.channel_laws.specs.channel_model.specs.Carrying.{machine_heard, read_by}
use Rattle.channel_laws.specs.channel_model.specs.Policies.{Policy}
use Rattle.channel_laws.specs.channel_model.specs.Value.{Retransmitting}
use Rattle.channel_laws.specs.Pairs.{End, Turn, new_pair, pair_of}
use Rattle.channel_laws.specs.Pipes.{HaveChannel}
use Rattle.recovered_laws.specs.Calm.{all_upsets}
use Rattle.recovered_laws.specs.Paid.{IsThere}
use Rattle.pair_laws.specs.world_model.specs.Worlds.{all_words}
use Rattle.pair_laws.specs.host_model.specs.Clients.{client_profile}
use Rattle.pair_laws.specs.host_model.specs.Servers.{server_profile}
use Rattle.pair_laws.specs.host_laws.specs.Calls.{HostsAsk}
use Rattle.pair_laws.specs.scenario_laws.specs.Captures.{Ran}
use Rattle.pair_laws.specs.Costs.{adverse_in, PairsCost}
use Rattle.pair_laws.specs.Within.{BothSendWithin}

-- ---- turns that upset

-- Where both hosts of a run are pairs whose turns cost words, at most so many turns of each link upset as words of the run are adverse; so it is at each moment of each
-- run, wherever it broke off.
abbrev pub UpsetsCostWords : Type 0
UpsetsCostWords = (asks : HostsAsk) (scenario : Scenario) (content : Option Contents) (capture : List Entry) (ran : Ran scenario content capture) (pairs : PairsCost asks scenario content capture ran) (number : ℕ)
    → (let near : Policy = (client_profile scenario.settings).policy in let far : Policy = (server_profile scenario.settings content).policy in all_upsets (new_pair near far) (pairs.turns.pairs.pairs number).turns ≤ adverse_in (all_words ran.happenings))

-- ---- machines

-- neither its timer nor the first PDU that is under way to it closes the machine of an open channel
pub record Outlasts (own : ℕ) (end' : End) (m : Ertm) : Type 0 where
  pub timer : (timed m).closed ≡ None
  pub frame : (pdu : List ℕ) (behind : List (List ℕ)) → end'.coming ≡ pdu ∷ behind → (channel_of pdu == own) ≡ true → (machine_heard (read_by m pdu) m).closed ≡ None

abbrev pub EndOutlasts : (own : ℕ) → End → Type 0
EndOutlasts own end' = (m : Ertm) → carrier_at own end'.run.value ≡ Some (Retransmitting m) → Outlasts own end' m

-- at a moment of a pair, of each channel that both hosts have, and that neither has closed
abbrev pub AllOutlast : (near far : Policy) → List Turn → Type 0
AllOutlast near far past = (channel : Channel) → HaveChannel near far past channel → IsThere channel.own (pair_of near far past).near.run.value → IsThere channel.peer (pair_of near far past).far.run.value
    → EndOutlasts channel.own (pair_of near far past).near × EndOutlasts channel.peer (pair_of near far past).far

-- So it is at each moment of each link of a run over L2CAP, while fewer words are adverse than the scenario has the hosts try. Over RFCOMM no channel is enhanced, and
-- the law says nothing.
abbrev pub MachinesOutlastWords : Type 0
MachinesOutlastWords = (asks : HostsAsk) (scenario : Scenario) (content : Option Contents) (capture : List Entry) (ran : Ran scenario content capture) (pairs : PairsCost asks scenario content capture ran) → BothSendWithin asks
    → adverse_in (all_words ran.happenings) < scenario.settings.tries → (number : ℕ) (past later : List Turn) → (pairs.turns.pairs.pairs number).turns ≡ past ++ later
    → AllOutlast (client_profile scenario.settings).policy (server_profile scenario.settings content).policy past
