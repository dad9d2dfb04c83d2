-- The reported buffers of a played scenario are those of its capture (Core 5.1, Volume 2 Part E, 4.1.1).
use Rattle.std.specs.Prelude.{ℕ, ◌≡◌, List, Option}
use Rattle.bt_base.specs.Objects.{Object, Contents}
use Rattle.noting_laws.specs.obex_session.specs.Counting.{Counts}
use Rattle.push_script.specs.declared.scenario.Scenario.{Scenario}
use Rattle.push_terms.specs.declared.outcome.Outcome.{Outcome}
use Rattle.push_terms.specs.declared.peaks.Peaks.{Peaks}
use Rattle.push_terms.specs.declared.word.Side.TheVariants.{A, B}
use Rattle.capture.specs.Entries.{Entry}
use Rattle.capture.specs.Peaks.{buffers_peak}
use Rattle.scenario_play.specs.Playing.{IsPlayed}

-- the greatest numbers of packets that were outstanding at a moment of the capture
pub record AreBufferPeaks (capture : List Entry) (peaks : Peaks) : Type 0 where
  pub a : peaks.buffers_a ≡ buffers_peak A capture
  pub b : peaks.buffers_b ≡ buffers_peak B capture

-- So it is of every scenario that was played to its end.
abbrev pub BufferPeaksAreTold : Type 0
BufferPeaksAreTold = (scenario : Scenario) (shelf : Option (List Object)) (before after : Option Contents) (trace trace' : Option (List ℕ)) (outcomes : List Outcome) (peaks : Peaks) (counts counts' : Counts)
    (played : IsPlayed scenario shelf before after trace trace' outcomes peaks counts counts') → AreBufferPeaks played.capture peaks
