-- The channels of both hosts on each link of a run are the two ends of a pair (this project's own).
use Rattle.std.specs.Prelude.{ℕ, ◌≡◌, List, [], get_or, length, Option}
use Rattle.std.specs.List.{AllByRecursion, flat_map}
use Rattle.scenario_laws.specs.bt_base.specs.Objects.{Contents}
use Rattle.scenario_laws.specs.push_script.specs.declared.scenario.Scenario.{Scenario}
use Rattle.scenario_laws.specs.push_terms.specs.declared.word.Side.{Side}
use Rattle.scenario_laws.specs.push_terms.specs.declared.word.Side.TheVariants as sides
use Rattle.scenario_laws.specs.capture.specs.Entries.{Entry}
use Rattle.channel_laws.specs.channel_model.specs.Policies.{Policy}
use Rattle.channel_laws.specs.Pairs.{Turn, pair_of}
use Rattle.channel_laws.specs.Runs.{Occurrence}
use Rattle.channel_laws.specs.Frames.{AreUttered}
use Rattle.scenario_laws.specs.world_model.specs.Worlds.{IsAtRest}
use Rattle.scenario_laws.specs.host_model.specs.Hosts.{Host}
use Rattle.scenario_laws.specs.host_model.specs.Profiles.{Profile}
use Rattle.scenario_laws.specs.host_model.specs.Clients.{client_profile}
use Rattle.scenario_laws.specs.host_model.specs.Servers.{server_profile}
use Rattle.host_laws.specs.Calls.{Asks, HostsAsk}
use Rattle.host_laws.specs.Lives.{on_links}
use Rattle.host_laws.specs.OverLinks.{talk_marks}
use Rattle.host_laws.specs.Fed.{TalksFed}
use Rattle.scenario_laws.specs.Captures.{client_of, server_of, Ran}
use Rattle.scenario_laws.specs.Coming.{CameOver}
use Rattle.pair_laws.specs.Pairs.{PairOnLink}

-- ---- a host

-- It came by a talk to what the capture has of its links, and lived so through it that the talk falls to them; and on each of them it said
-- what it gave.
pub record LivedOver {P : Type 0} (A : Profile P) (asks : Asks A) (side : Side) (capture : List Entry) (now : Host P) : Type 0 where
  pub came : CameOver A side capture now
  pub fed : TalksFed A asks came.talk now
  pub uttered : AllByRecursion (AreUttered A.policy) (on_links A asks (flat_map talk_marks came.talk) now fed.so.lives)

-- what happened to its channels up to the first time that its link came up or went down, up to the second time, and so on: so the odd
-- numbers are those of its links, from 1 on. Nothing has happened to them yet behind the last.
abbrev pub happened_on : {P : Type 0} (A : Profile P) (asks : Asks A) (side : Side) (capture : List Entry) (now : Host P) → LivedOver A asks side capture now → (number : ℕ) → List Occurrence
happened_on A asks side capture now lived number = get_or (on_links A asks (flat_map talk_marks lived.came.talk) now lived.fed.so.lives) number []

-- the number of the part that goes on
abbrev pub last_number : {P : Type 0} (A : Profile P) (asks : Asks A) (side : Side) (capture : List Entry) (now : Host P) → LivedOver A asks side capture now → ℕ
last_number A asks side capture now lived = length lived.fed.so.lives.spans

-- what is under way in a pair is what waits in the air to each end
pub record IsInAir (near far : Policy) (turns : List Turn) (to_near to_far : List (List ℕ)) : Type 0 where
  pub near_is : (pair_of near far turns).near.coming ≡ to_near
  pub far_is : (pair_of near far turns).far.coming ≡ to_far

-- ---- the law

-- Both hosts of a run lived over their links, and on each of them their channels are a pair. Where the run is at rest both are on the
-- same one, and there what is under way in the pair is in the air.
pub record ArePairs (asks : HostsAsk) (scenario : Scenario) (content : Option Contents) (capture : List Entry) (ran : Ran scenario content capture) : Type 0 where
  pub a : LivedOver (client_profile scenario.settings) (asks.clients scenario.settings) sides.A capture ran.world.a.upper
  pub b : LivedOver (server_profile scenario.settings content) (asks.servers scenario.settings content) sides.B capture ran.world.b.upper
  pub pairs : (number : ℕ) → PairOnLink (client_profile scenario.settings).policy (server_profile scenario.settings content).policy
      (happened_on (client_profile scenario.settings) (asks.clients scenario.settings) sides.A capture ran.world.a.upper a number)
      (happened_on (server_profile scenario.settings content) (asks.servers scenario.settings content) sides.B capture ran.world.b.upper b number)
  pub level : IsAtRest (client_of scenario) (server_of scenario content) ran.world
      → last_number (server_profile scenario.settings content) (asks.servers scenario.settings content) sides.B capture ran.world.b.upper b ≡ last_number (client_profile scenario.settings) (asks.clients scenario.settings) sides.A capture ran.world.a.upper a
  pub air : IsAtRest (client_of scenario) (server_of scenario content) ran.world
      → IsInAir (client_profile scenario.settings).policy (server_profile scenario.settings content).policy (pairs (last_number (client_profile scenario.settings) (asks.clients scenario.settings) sides.A capture ran.world.a.upper a)).turns ran.world.radio.b.waiting ran.world.radio.a.waiting

-- So it is at each moment of each run, wherever it broke off.
abbrev pub HostsArePairs : Type 0
HostsArePairs = (asks : HostsAsk) (scenario : Scenario) (content : Option Contents) (capture : List Entry) (ran : Ran scenario content capture) → ArePairs asks scenario content capture ran
