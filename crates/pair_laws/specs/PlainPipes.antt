-- Basic channels of both hosts of a run are pipes of what they took, at each moment of a link (Core 5.1, Volume 3 Part A, 3.1).
use Rattle.std.specs.Prelude.{ℕ, ◌≡◌, List, ◌++◌, Option}
use Rattle.std.specs.List.{flat_map}
use Rattle.scenario_laws.specs.bt_base.specs.Objects.{Contents}
use Rattle.scenario_laws.specs.push_script.specs.declared.scenario.Scenario.{Scenario}
use Rattle.scenario_laws.specs.capture.specs.Entries.{Entry}
use Rattle.scenario_laws.specs.l2cap_config.specs.declared.wish.Mode.TheVariants.{Basic}
use Rattle.scenario_laws.specs.link_talk.specs.declared.channel.Channel.{Channel}
use Rattle.scenario_laws.specs.link_talk.specs.Channels.{reading}
use Rattle.channel_laws.specs.channel_model.specs.Policies.{Policy}
use Rattle.channel_laws.specs.Common.{mirrored}
use Rattle.channel_laws.specs.Endpoints.{IsOf}
use Rattle.channel_laws.specs.Pairs.{Turn, new_pair}
use Rattle.channel_laws.specs.Pipes.{IsFront}
use Rattle.channel_laws.specs.Runs.{Occurrence, run_of, sdus_up}
use Rattle.channel_laws.specs.Taken.{taken_of}
use Rattle.channel_laws.specs.Views.{read_at}
use Rattle.scenario_laws.specs.host_model.specs.Clients.{client_profile}
use Rattle.scenario_laws.specs.host_model.specs.Servers.{server_profile}
use Rattle.host_laws.specs.Calls.{HostsAsk}
use Rattle.scenario_laws.specs.Captures.{Ran}
use Rattle.pair_laws.specs.Keeping.{PairsKeepOrder}
use Rattle.pair_laws.specs.Orders.{Joint, near_in, far_in, joints_from}
use Rattle.pair_laws.specs.Within.{BothSendWithin}

-- both talks have the channel, and both hosts wish basic mode of its PSM
pub record IsPlainAt (near far : Policy) (one other : List Occurrence) (channel : Channel) : Type 0 where
  pub near_has : IsOf channel (read_at channel.own (reading (run_of near one).said).entries)
  pub far_has : IsOf (mirrored channel) (read_at channel.peer (reading (run_of far other).said).entries)
  pub near_mode : (near.wish channel.psm).mode ≡ Basic
  pub far_mode : (far.wish channel.psm).mode ≡ Basic

-- what came up at either end is a front of what the other end took of its host
pub record IsPlainPipe (near far : Policy) (one other : List Occurrence) (channel : Channel) : Type 0 where
  pub near_comes : IsFront (sdus_up channel.own (run_of near one).up) (taken_of far channel.peer other)
  pub far_comes : IsFront (sdus_up channel.peer (run_of far other).up) (taken_of near channel.own one)

-- so is each such channel at each moment of these turns
abbrev pub ArePlainPipes : (near far : Policy) → List Turn → Type 0
ArePlainPipes near far turns = (front rest : List Joint) (channel : Channel) → joints_from (new_pair near far) turns ≡ front ++ rest
    → IsPlainAt near far (flat_map near_in front) (flat_map far_in front) channel → IsPlainPipe near far (flat_map near_in front) (flat_map far_in front) channel

-- ---- the law

-- So it is on each link of each run whose ways keep their order: for service discovery and for the multiplexer of RFCOMM.
abbrev pub PlainPairsArePipes : Type 0
PlainPairsArePipes = (asks : HostsAsk) (scenario : Scenario) (content : Option Contents) (capture : List Entry) (ran : Ran scenario content capture) (order : PairsKeepOrder asks scenario content capture ran) → BothSendWithin asks
    → (number : ℕ) → ArePlainPipes (client_profile scenario.settings).policy (server_profile scenario.settings content).policy (order.turns.pairs.pairs number).turns
