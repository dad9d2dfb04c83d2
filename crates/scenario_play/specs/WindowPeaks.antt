-- What the reported windows of a played scenario say of its capture (Core 5.1, Volume 3 Part A, 5.4 and 8.6).
use Rattle.std.specs.Prelude.{ℕ, ◌≤◌, List, [], Option}
use Rattle.bt_base.specs.declared.settings.Settings.{Settings}
use Rattle.bt_base.specs.Objects.{Object, Contents}
use Rattle.noting_laws.specs.obex_session.specs.Counting.{Counts}
use Rattle.push_script.specs.declared.scenario.Scenario.{Scenario}
use Rattle.push_terms.specs.declared.outcome.Outcome.{Outcome}
use Rattle.push_terms.specs.declared.peaks.Peaks.{Peaks}
use Rattle.push_terms.specs.declared.word.Side.{Side}
use Rattle.push_terms.specs.declared.word.Side.TheVariants.{A, B}
use Rattle.capture.specs.Entries.{Entry, Acted}
use Rattle.capture.specs.Histories.{EachAfter}
use Rattle.scenario_play.specs.PeakBounds.{HoldsAtMost}
use Rattle.scenario_play.specs.Playing.{IsPlayed}

-- It is so as a word acts: all that was said has moved by then, and nothing is on its way to a host.
abbrev pub AsWordActs : (List Entry → Type 0) → List Entry → Entry → Type 0
AsWordActs P past (Acted ordinal word) = P past
AsWordActs P past entry = Unit {0}

-- The window that is reported of a side is no greater than both hosts state. And on the link that is up, of each channel that its host has not closed, no more
-- I-frames are unacknowledged than that: as each word acts, and at the end.
pub record IsWindowPeak (settings : Settings) (side : Side) (capture : List Entry) (window : ℕ) : Type 0 where
  pub stated : window ≤ settings.window
  pub words : EachAfter (AsWordActs (HoldsAtMost settings side window)) [] capture
  pub finish : HoldsAtMost settings side window capture

pub record AreWindowPeaks (scenario : Scenario) (capture : List Entry) (peaks : Peaks) : Type 0 where
  pub a : IsWindowPeak scenario.settings A capture peaks.window_a
  pub b : IsWindowPeak scenario.settings B capture peaks.window_b

-- So it is of every scenario that was played to its end, over either transport.
abbrev pub WindowPeaksAreTold : Type 0
WindowPeaksAreTold = (scenario : Scenario) (shelf : Option (List Object)) (before after : Option Contents) (trace trace' : Option (List ℕ)) (outcomes : List Outcome) (peaks : Peaks) (counts counts' : Counts)
    (played : IsPlayed scenario shelf before after trace trace' outcomes peaks counts counts') → AreWindowPeaks scenario played.capture peaks
