-- The accounts of both hosts, over the capture alone (Core 5.1, Volume 2 Part E, 4.1.1 and 7.7.19).
use Rattle.std.specs.Prelude.{ℕ, ◌≡◌, ◌≤◌, true, List, Option, Some}
use Rattle.radio_world.specs.bt_base.specs.declared.settings.Settings.{Settings}
use Rattle.radio_world.specs.bt_base.specs.Objects.{Contents}
use Rattle.radio_world.specs.push_script.specs.declared.scenario.Scenario.{Scenario}
use Rattle.radio_world.specs.push_terms.specs.declared.word.Side.{Side}
use Rattle.radio_world.specs.capture.specs.Buffers.{KeepsWithin}
use Rattle.radio_world.specs.capture.specs.Entries.{Entry}
use Rattle.host_laws.specs.link_talk.specs.Accounts.{window_used}
use Rattle.host_laws.specs.link_talk.specs.Captures.{talk_now}
use Rattle.host_laws.specs.link_talk.specs.Channels.{Entry as Known, is_alive, reading}
use Rattle.host_laws.specs.channel_laws.specs.Views.{read_at}
use Rattle.radio_world.specs.radio_model.specs.Course.{PushesInTurn}
use Rattle.radio_world.specs.radio_model.specs.Honest.{AreHonest}
use Rattle.host_laws.specs.world_model.specs.Worlds.{IsAtRest}
use Rattle.scenario_laws.specs.Captures.{client_of, server_of, Ran}
use Rattle.scenario_laws.specs.Parties.{party_of}

-- at each moment a host has no more packets outstanding than its controller takes, and no more than 64
abbrev pub BuffersAreKept : Type 0
BuffersAreKept = (scenario : Scenario) (content : Option Contents) (capture : List Entry) (side : Side) → Ran scenario content capture → KeepsWithin side scenario.acl_count capture

-- On the link that is up, of each channel that its host has not closed, no more I-frames are unacknowledged than the window that both
-- hosts state (Core 5.1, Volume 3 Part A, 5.4 and 8.6).
abbrev pub KeepsWindow : Settings → Side → List Entry → Type 0
KeepsWindow settings side past = (own : ℕ) (channel : Known) → read_at own (reading (talk_now side past)).entries ≡ Some channel → is_alive channel.life ≡ true
    → window_used (party_of settings side) (talk_now side past) channel.channel ≤ settings.window

-- so it is wherever all is at rest
abbrev pub WindowsAreKept : Type 0
WindowsAreKept = (scenario : Scenario) (content : Option Contents) (capture : List Entry) (side : Side) (ran : Ran scenario content capture) → IsAtRest (client_of scenario) (server_of scenario content) ran.world
    → KeepsWindow scenario.settings side capture

-- controllers are honest, and each packet out of a host has the handle of its link
abbrev pub ControllersAreHonest : Type 0
ControllersAreHonest = (scenario : Scenario) (content : Option Contents) (capture : List Entry) → Ran scenario content capture → AreHonest capture

-- pushes are in turn, and the links of each lie within it
abbrev pub PushesAreInTurn : Type 0
PushesAreInTurn = (scenario : Scenario) (content : Option Contents) (capture : List Entry) → Ran scenario content capture → PushesInTurn capture
