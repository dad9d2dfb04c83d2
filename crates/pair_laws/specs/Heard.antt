-- A host hears nothing on its link behind what it gave up there, and so that takes no I-frame (Core 5.1, Volume 3 Part A, 6.2 and 8.6).
use Rattle.std.specs.Prelude.{◌≡◌, false, true, List, [], Option}
use Rattle.std.specs.List.{AllByRecursion, flat_map}
use Rattle.scenario_laws.specs.bt_base.specs.Objects.{Contents}
use Rattle.scenario_laws.specs.push_script.specs.declared.scenario.Scenario.{Scenario}
use Rattle.scenario_laws.specs.capture.specs.Entries.{Entry}
use Rattle.scenario_laws.specs.capture.specs.Histories.{EachAfter}
use Rattle.scenario_laws.specs.link_talk.specs.Accounts.{frames_passed}
use Rattle.scenario_laws.specs.link_talk.specs.declared.channel.Channel.{Channel}
use Rattle.scenario_laws.specs.link_talk.specs.declared.party.Party.{Party}
use Rattle.channel_laws.specs.channel_model.specs.Policies.{Policy, policy}
use Rattle.channel_laws.specs.Frames.{AreUttered}
use Rattle.channel_laws.specs.Runs.{Occurrence, Comes, Connects, AsksFeatures, Disconnects, Sends, Gives, Fires, Tells, run_of}
use Rattle.channel_laws.specs.Sdus.{StatesFrame}
use Rattle.scenario_laws.specs.host_model.specs.Clients.{client_profile}
use Rattle.scenario_laws.specs.host_model.specs.Servers.{server_profile}
use Rattle.host_laws.specs.Calls.{HostsAsk}
use Rattle.host_laws.specs.Keeping.{GivesNothingUp, SendsAsItLends}
use Rattle.host_laws.specs.Lives.{on_links}
use Rattle.host_laws.specs.OverLinks.{talk_marks}
use Rattle.host_laws.specs.Seen.{spoken_of}
use Rattle.scenario_laws.specs.Captures.{Ran}
use Rattle.pair_laws.specs.OnLinks.{ArePairs}

-- ---- what is so where something comes in

-- of all that happened on the link before
abbrev pub IsHeardSo : (List Occurrence → Type 0) → (past : List Occurrence) → Occurrence → Type 0
IsHeardSo H past (Comes pdu) = H past
IsHeardSo H past (Connects psm) = Unit {0}
IsHeardSo H past AsksFeatures = Unit {0}
IsHeardSo H past (Disconnects own) = Unit {0}
IsHeardSo H past (Sends own sdu) = Unit {0}
IsHeardSo H past (Gives pdu) = Unit {0}
IsHeardSo H past Fires = Unit {0}
IsHeardSo H past Tells = Unit {0}

-- each time
abbrev pub HearsSo : (List Occurrence → Type 0) → List Occurrence → Type 0
HearsSo H list = EachAfter (IsHeardSo H) [] list

-- it gave up no request before
abbrev pub HearsFirst : Policy → List Occurrence → Type 0
HearsFirst wanted list = HearsSo (GivesNothingUp wanted) list

-- ---- the laws

-- Of a host that hears nothing behind what it gave up: the frames that passed on each channel by its own talk are those by what moved of it.
abbrev pub ForgoneTakesNoFrame : Type 0
ForgoneTakesNoFrame = (wanted : Policy) (party : Party) (list : List Occurrence) (channel : Channel) → StatesFrame wanted party → AreUttered wanted list → HearsFirst wanted list
    → frames_passed party channel (spoken_of (run_of wanted list).said) ≡ frames_passed party channel (run_of wanted list).said

-- So it is of both hosts of a run, on each of their links: a host that gave up a request ends its link, and hears nothing before that is gone.
pub record HearFirst (asks : HostsAsk) (scenario : Scenario) (content : Option Contents) (capture : List Entry) (ran : Ran scenario content capture) : Type 0 where
  pub pairs : ArePairs asks scenario content capture ran
  pub a : AllByRecursion (HearsFirst (policy scenario.settings false))
      (on_links (client_profile scenario.settings) (asks.clients scenario.settings) (flat_map talk_marks pairs.a.came.talk) ran.world.a.upper pairs.a.fed.so.lives)
  pub b : AllByRecursion (HearsFirst (policy scenario.settings true))
      (on_links (server_profile scenario.settings content) (asks.servers scenario.settings content) (flat_map talk_marks pairs.b.came.talk) ran.world.b.upper pairs.b.fed.so.lives)

-- Wherever the run broke off, where the server asks for nothing but that its responses be sent.
abbrev pub HostsHearFirst : Type 0
HostsHearFirst = (asks : HostsAsk) (scenario : Scenario) (content : Option Contents) (capture : List Entry) (ran : Ran scenario content capture) → SendsAsItLends scenario.settings content (asks.servers scenario.settings content)
    → HearFirst asks scenario content capture ran
