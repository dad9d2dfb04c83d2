-- A server with a tape and host a's client: their channels are pairs, and host b is given what the tape tells (this project's own).
use Rattle.std.specs.Prelude.{◌≡◌, List, Option}
use Rattle.std.specs.List.{AllByRecursion}
use Rattle.inbox_laws.specs.bt_base.specs.declared.settings.Settings.{Settings}
use Rattle.inbox_laws.specs.bt_base.specs.Objects.{Object, Contents}
use Rattle.inbox_laws.specs.push_script.specs.declared.scenario.Scenario.{Scenario}
use Rattle.inbox_laws.specs.capture.specs.Entries.{Entry}
use Rattle.inbox_laws.specs.world_model.specs.Machines.{Upper}
use Rattle.inbox_laws.specs.world_model.specs.Worlds.{World, Happening, Runs, all_words, first_world}
use Rattle.inbox_laws.specs.host_model.specs.Circumstances.{Circumstance}
use Rattle.inbox_laws.specs.host_model.specs.Clients.{ClientProfile}
use Rattle.inbox_laws.specs.host_model.specs.Hosts.{Host}
use Rattle.inbox_laws.specs.host_model.specs.Machines.{upper}
use Rattle.inbox_laws.specs.host_model.specs.Servers.{ServerProfile, server_profile}
use Rattle.inbox_laws.specs.host_laws.specs.Calls.{HostsAsk}
use Rattle.inbox_laws.specs.host_laws.specs.Feeds.{Feed}
use Rattle.inbox_laws.specs.host_laws.specs.ShelfAnswers.{AnswersOf}
use Rattle.inbox_laws.specs.scenario_laws.specs.Captures.{client_of, Ran}
use Rattle.inbox_laws.specs.pair_laws.specs.InTurn.{PairsInTurn}
use Rattle.inbox_laws.specs.pair_laws.specs.Keeping.{LosesNothing, PairsKeepOrder}
use Rattle.inbox_laws.specs.pair_laws.specs.Served.{holding_on}
use Rattle.tape_laws.specs.Once.{BeginsGiven}
use Rattle.tape_laws.specs.Runs.{untaped_world}
use Rattle.tape_laws.specs.Taped.{Tape, Taped, taped, untaped}

-- both hosts as a scenario sets them, where the server has this tape
abbrev pub TapedHosts : Type 0 → Type 0
TapedHosts T = World (Host ClientProfile) (Host (Taped ServerProfile T))

abbrev pub taped_of : {T : Type 0} → Scenario → Option Contents → Tape ServerProfile T → Upper (Host (Taped ServerProfile T)) Circumstance
taped_of scenario content tape = upper (taped (server_profile scenario.settings content) tape)

abbrev pub taped_beginning : {T : Type 0} → Scenario → Option Contents → Tape ServerProfile T → TapedHosts T
taped_beginning scenario content tape = first_world (client_of scenario) (taped_of scenario content tape) scenario.acl_length scenario.acl_count scenario.names

-- all that happened to them
abbrev pub HappenedTaped : {T : Type 0} → Scenario → Option Contents → Tape ServerProfile T → List Happening → TapedHosts T → Type 0
HappenedTaped scenario content tape happenings world = Runs (client_of scenario) (taped_of scenario content tape) happenings (taped_beginning scenario content tape) world

-- and where the shelf of host a holds these
abbrev pub HappenedTapedHeld : {T : Type 0} → Scenario → Option (List Object) → Option Contents → Tape ServerProfile T → List Happening → TapedHosts T → Type 0
HappenedTapedHeld scenario shelf content tape happenings world = Runs (holding_on shelf (client_of scenario)) (taped_of scenario content tape) happenings (taped_beginning scenario content tape) world

-- these are what a server with this tape went through, but it is given what the tape tells; and the first thing is what it is given
abbrev pub AreOfTape : {T : Type 0} → Settings → Option Contents → Tape ServerProfile T → List Feed → Type 0
AreOfTape settings content tape feeds = let A = server_profile settings content in (taped_feeds : List Feed) × BeginsGiven taped_feeds × (feeds ≡ untaped A tape (taped A tape).first taped_feeds)

-- ---- the laws

-- Both hosts' channels are pairs whose links go side by side, and host b is given what the tape tells.
pub record TapedInTurn {T : Type 0} (asks : HostsAsk) (scenario : Scenario) (content : Option Contents) (tape : Tape ServerProfile T) (capture : List Entry) (ran : Ran scenario content capture) : Type 0 where
  pub turns : PairsInTurn asks scenario content capture ran
  pub given : AreOfTape scenario.settings content tape turns.pairs.b.fed.so.lives.feeds

-- So it is at each moment of a run without a tape that comes to where one with it is, wherever it broke off.
abbrev pub TapedTakeTurns : {T : Type 0} → Scenario → Option Contents → Tape ServerProfile T → Type 0
TapedTakeTurns {T} scenario content tape = (asks : HostsAsk) (capture : List Entry) (ran : Ran scenario content capture) (world : TapedHosts T)
    → HappenedTaped scenario content tape ran.happenings world → ran.world ≡ untaped_world world → TapedInTurn asks scenario content tape capture ran

-- Where the words of the run lose, repeat and damage nothing, each way of each link keeps its order; and what host a is given of its shelf is so.
pub record TapedInOrder {T : Type 0} (asks : HostsAsk) (scenario : Scenario) (shelf : Option (List Object)) (content : Option Contents) (tape : Tape ServerProfile T) (capture : List Entry) (ran : Ran scenario content capture) : Type 0 where
  pub order : PairsKeepOrder asks scenario content capture ran
  pub told : AllByRecursion (AnswersOf shelf) order.turns.pairs.a.fed.so.lives.feeds
  pub given : AreOfTape scenario.settings content tape order.turns.pairs.b.fed.so.lives.feeds

abbrev pub TapedKeepOrder : {T : Type 0} → Scenario → Option Contents → Tape ServerProfile T → Type 0
TapedKeepOrder {T} scenario content tape = (asks : HostsAsk) (shelf : Option (List Object)) (capture : List Entry) (ran : Ran scenario content capture) (world : TapedHosts T)
    → HappenedTapedHeld scenario shelf content tape ran.happenings world → ran.world ≡ untaped_world world → LosesNothing (all_words ran.happenings) → TapedInOrder asks scenario shelf content tape capture ran
