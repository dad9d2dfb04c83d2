-- The windows of both hosts of a run over its capture, at each moment (Core 5.1, Volume 3 Part A, 5.4, 8.3 and 8.6).
use Rattle.std.specs.Prelude.{ℕ, ◌≡◌, ◌≤◌, List, ◌++◌, Option, Some}
use Rattle.std.specs.List.{AllByRecursion}
use Rattle.scenario_laws.specs.bt_base.specs.declared.settings.Settings.{Settings}
use Rattle.scenario_laws.specs.bt_base.specs.Objects.{Contents}
use Rattle.scenario_laws.specs.push_script.specs.declared.scenario.Scenario.{Scenario}
use Rattle.scenario_laws.specs.push_terms.specs.declared.word.Side.{Side}
use Rattle.scenario_laws.specs.capture.specs.Entries.{Entry}
use Rattle.scenario_laws.specs.capture.specs.Histories.{AtEach}
use Rattle.scenario_laws.specs.capture.specs.Links.{Link, links}
use Rattle.scenario_laws.specs.l2cap_config.specs.declared.wish.Mode.TheVariants.{Enhanced}
use Rattle.scenario_laws.specs.link_talk.specs.Accounts.{frames_passed, window_used}
use Rattle.scenario_laws.specs.link_talk.specs.Captures.{talk_now}
use Rattle.scenario_laws.specs.link_talk.specs.Carriages.{mode_of}
use Rattle.scenario_laws.specs.link_talk.specs.Channels.{Entry as Known, reading}
use Rattle.scenario_laws.specs.link_talk.specs.declared.channel.Channel.{Channel}
use Rattle.scenario_laws.specs.link_talk.specs.Sayings.{Saying, talk}
use Rattle.channel_laws.specs.Endpoints.{IsOf}
use Rattle.channel_laws.specs.Views.{read_at}
use Rattle.channel_laws.specs.Windows.{HoldsWindow}
use Rattle.scenario_laws.specs.Captures.{Ran}
use Rattle.scenario_laws.specs.Parties.{party_of}

-- ---- a talk

-- On each enhanced channel of it, whether it is closed or not: at each moment the I-frames that went out and are not acknowledged are no more than the
-- window that both hosts state, and none is acknowledged that did not go out.
abbrev pub HoldsOn : Settings → Side → List Saying → Type 0
HoldsOn settings side said = (channel : Channel) → IsOf channel (read_at channel.own (reading said).entries) → mode_of channel said ≡ Enhanced → AtEach (HoldsWindow settings.window) (frames_passed (party_of settings side) channel said)

-- What is so of a talk was so before the last of it was said. And so is the number of frames that the capture has unacknowledged, on each channel of either mode.
pub record TalksHold : Type 0 where
  pub fronts : (settings : Settings) (side : Side) (front behind : List Saying) → HoldsOn settings side (front ++ behind) → HoldsOn settings side front
  pub used : (settings : Settings) (side : Side) (said : List Saying) (own : ℕ) (entry : Known) → HoldsOn settings side said → read_at own (reading said).entries ≡ Some entry → window_used (party_of settings side) said entry.channel ≤ settings.window

-- ---- a capture

-- at each moment, on the link that is up then
abbrev pub HoldsThroughout : Settings → Side → List Entry → Type 0
HoldsThroughout settings side capture = AtEach (λ past. HoldsOn settings side (talk_now side past)) capture

-- on each of its links, to its end
abbrev pub HoldsOnLinks : Settings → Side → List Entry → Type 0
HoldsOnLinks settings side capture = AllByRecursion (λ (link : Link). HoldsOn settings side (talk link)) (links side capture)

-- So both hosts hold their windows in each run, wherever it broke off and whatever its ports answered: also where they gave requests up and end their link.
pub record RunsHoldWindows : Type 0 where
  pub throughout : (scenario : Scenario) (content : Option Contents) (capture : List Entry) (side : Side) → Ran scenario content capture → HoldsThroughout scenario.settings side capture
  pub on_links : (scenario : Scenario) (content : Option Contents) (capture : List Entry) (side : Side) → Ran scenario content capture → HoldsOnLinks scenario.settings side capture
