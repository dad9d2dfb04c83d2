-- No request is ignored in the runs of a scenario over L2CAP (Object Push Profile 1.2, 4.3).
use Rattle.std.specs.Prelude.{◌≡◌, true, List, Option}
use Rattle.std.specs.List.{AllByRecursion, flat_map}
use Rattle.pair_laws.specs.bt_base.specs.declared.settings.Transport.TheVariants.{L2cap}
use Rattle.pair_laws.specs.bt_base.specs.Objects.{Object, Contents}
use Rattle.pair_laws.specs.push_script.specs.declared.scenario.Scenario.{Scenario}
use Rattle.pair_laws.specs.push_terms.specs.declared.word.Side.{Side}
use Rattle.pair_laws.specs.push_terms.specs.declared.word.Side.TheVariants as sides
use Rattle.pair_laws.specs.capture.specs.Entries.{Entry}
use Rattle.pair_laws.specs.channel_model.specs.Policies.{policy}
use Rattle.pair_laws.specs.host_model.specs.Clients.{client_profile}
use Rattle.pair_laws.specs.host_model.specs.Hosts.{Host}
use Rattle.pair_laws.specs.host_model.specs.Profiles.{Profile}
use Rattle.pair_laws.specs.host_model.specs.Servers.{server_profile}
use Rattle.pair_laws.specs.host_laws.specs.Calls.{Asks, HostsAsk}
use Rattle.pair_laws.specs.host_laws.specs.Fed.{TalksFed}
use Rattle.pair_laws.specs.host_laws.specs.InOrder.{AsksNoChannels, IsWhole}
use Rattle.pair_laws.specs.host_laws.specs.Lives.{on_links}
use Rattle.pair_laws.specs.host_laws.specs.OverLinks.{talk_marks}
use Rattle.pair_laws.specs.scenario_laws.specs.Captures.{Ran}
use Rattle.pair_laws.specs.scenario_laws.specs.Coming.{CameOver}
use Rattle.pair_laws.specs.scenario_laws.specs.Gains.{holding, serving, asked_by, OrderlyServer}
use Rattle.request_laws.specs.BothFed.{over_stored, BothAreHeard}

-- ---- both hosts of a run

-- It came by a talk to what the capture has of its links, and all that its profile went through stands in one order with what happened to
-- its channels.
pub record CameFed {P : Type 0} (A : Profile P) (asks : Asks A) (side : Side) (capture : List Entry) (now : Host P) : Type 0 where
  pub came : CameOver A side capture now
  pub fed : TalksFed A asks came.talk now

pub record BothCameFed (asks : HostsAsk) (scenario : Scenario) (content : Option Contents) (capture : List Entry) (ran : Ran scenario content capture) : Type 0 where
  pub a : CameFed (client_profile scenario.settings) (asks.clients scenario.settings) sides.A capture ran.world.a.upper
  pub b : CameFed (server_profile scenario.settings content) (asks.servers scenario.settings content) sides.B capture ran.world.b.upper

-- So both did at each moment of each run.
abbrev pub RunsAreFed : Type 0
RunsAreFed = (asks : HostsAsk) (scenario : Scenario) (content : Option Contents) (capture : List Entry) (ran : Ran scenario content capture) → BothCameFed asks scenario content capture ran

-- ---- the law

-- What is asked of both hosts besides: on each link their channels of the object were pipes, the shelf told no object that is too long, the inbox granted all
-- calls, and all that came on the server's channels was handed up.
pub record BothServe (asks : HostsAsk) (scenario : Scenario) (before : List Object) (capture : List Entry) (ran : Ran scenario (holding before) capture) (both : BothCameFed asks scenario (holding before) capture ran) : Type 0 where
  pub heard : BothAreHeard (over_stored asks scenario.settings before) both.a.came.talk both.b.came.talk ran.world.a.upper ran.world.b.upper both.a.fed both.b.fed
  pub whole : AllByRecursion (IsWhole (policy scenario.settings true))
      (on_links (serving scenario.settings before) (asked_by asks scenario.settings before) (flat_map talk_marks both.b.came.talk) ran.world.b.upper both.b.fed.so.lives)

-- Then host b serves in order: no request is ignored.
abbrev pub ServersServeInOrder : Type 0
ServersServeInOrder = (asks : HostsAsk) (scenario : Scenario) (before : List Object) (capture : List Entry) (ran : Ran scenario (holding before) capture) → scenario.settings.transport ≡ L2cap
    → (both : BothCameFed asks scenario (holding before) capture ran) → BothServe asks scenario before capture ran both
    → AsksNoChannels (serving scenario.settings before) (asked_by asks scenario.settings before)
    → OrderlyServer asks scenario.settings before capture ran.world.b.upper
