-- Between which numbers the reported peaks of a played scenario lie (Core 5.1, Volume 3 Part A, 5.4 and 8.6).
use Rattle.std.specs.Prelude.{ℕ, ◌≡◌, ◌≤◌, true, List, ◌∷◌, ◌++◌, Option, Some}
use Rattle.bt_base.specs.declared.settings.Settings.{Settings}
use Rattle.bt_base.specs.Objects.{Contents}
use Rattle.push_script.specs.declared.scenario.Scenario.{Scenario}
use Rattle.push_terms.specs.declared.peaks.Peaks.{Peaks}
use Rattle.push_terms.specs.declared.word.Side.{Side}
use Rattle.push_terms.specs.declared.word.Side.TheVariants.{A, B}
use Rattle.push_terms.specs.declared.word.Word.{Word}
use Rattle.capture.specs.Entries.{Entry}
use Rattle.noting_laws.specs.link_talk.specs.Accounts.{window_used}
use Rattle.noting_laws.specs.link_talk.specs.Captures.{talk_now}
use Rattle.noting_laws.specs.link_talk.specs.Channels.{Entry as Known, is_alive, reading}
use Rattle.noting_laws.specs.channel_laws.specs.Views.{read_at}
use Rattle.noting_laws.specs.world_model.specs.Worlds.{Happening, Turns, IsAtRest, all_entries}
use Rattle.noting_laws.specs.turn_laws.specs.Laws.{IsFront}
use Rattle.noting_laws.specs.scenario_laws.specs.Captures.{client_of, server_of, BothHosts, Happened}
use Rattle.noting_laws.specs.scenario_laws.specs.Parties.{party_of}
use Rattle.scenario_play.specs.Peaks.{AreReached}

-- On the link that is up, of each channel that its host has not closed, no more I-frames are unacknowledged than this, as the capture has it.
abbrev pub HoldsAtMost : Settings → Side → (most : ℕ) → List Entry → Type 0
HoldsAtMost settings side most past = (own : ℕ) (channel : Known) → read_at own (reading (talk_now side past)).entries ≡ Some channel → is_alive channel.life ≡ true
    → window_used (party_of settings side) (talk_now side past) channel.channel ≤ most

-- the run came to this world, and where that is at rest, neither host had more frames unacknowledged than was reported
pub record RestsBelow (scenario : Scenario) (content : Option Contents) (front : List Happening) (peaks : Peaks) : Type 0 where
  pub world : BothHosts
  pub happened : Happened scenario content front world
  pub below_a : IsAtRest (client_of scenario) (server_of scenario content) world → HoldsAtMost scenario.settings A peaks.window_a (all_entries front)
  pub below_b : IsAtRest (client_of scenario) (server_of scenario content) world → HoldsAtMost scenario.settings B peaks.window_b (all_entries front)

-- The windows that were reported are at most what both hosts state. And no host had more frames unacknowledged, on a
-- channel that it had not closed, wherever the run was at rest, and so as each word acted and at its end.
pub record AreBounded (scenario : Scenario) (content : Option Contents) (happenings : List Happening) (peaks : Peaks) : Type 0 where
  pub stated_a : peaks.window_a ≤ scenario.settings.window
  pub stated_b : peaks.window_b ≤ scenario.settings.window
  pub rests : (front : List Happening) → IsFront front happenings → RestsBelow scenario content front peaks
  pub words : (front later : List Happening) (ordinal : ℕ) (word : Word) → happenings ≡ front ++ Turns ordinal word ∷ later
      → HoldsAtMost scenario.settings A peaks.window_a (all_entries front) × HoldsAtMost scenario.settings B peaks.window_b (all_entries front)
  pub ends_a : HoldsAtMost scenario.settings A peaks.window_a (all_entries happenings)
  pub ends_b : HoldsAtMost scenario.settings B peaks.window_b (all_entries happenings)

-- So are the windows that a scenario reports which was played to its end, over either transport.
abbrev pub PeaksAreBounded : Type 0
PeaksAreBounded = (scenario : Scenario) (content : Option Contents) (happenings : List Happening) (peaks : Peaks) → AreReached scenario content happenings peaks → AreBounded scenario content happenings peaks
