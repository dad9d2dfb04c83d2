-- The greatest numbers of I-frames and of credits of a capture, with one entry more (Core 5.1, Volume 3 Part A, 8.3 and 8.6;
-- RFCOMM 1.2, 6.5).
use Rattle.std.specs.Prelude.{◌≡◌, ◌∷◌, ◌++◌, List, [], max}
use Rattle.link_talk.specs.push_terms.specs.declared.word.Side.{Side}
use Rattle.link_talk.specs.capture.specs.Entries.{Entry}
use Rattle.link_talk.specs.declared.party.Party.{Party}
use Rattle.link_talk.specs.Captures.{window_held, window_peak, natural, credits_of, credits_peak}

-- a peak is the greater of the peak before the entry and of what is held behind it
pub record PeaksGrow : Type 0 where
  pub window : (party : Party) (side : Side) (past : List Entry) (more : Entry) → window_peak party side (past ++ more ∷ []) ≡ max (window_peak party side past) (window_held party side (past ++ more ∷ []))
  pub credits : (party : Party) (side : Side) (past : List Entry) (more : Entry) → credits_peak party side (past ++ more ∷ []) ≡ max (credits_peak party side past) (natural (credits_of party side (past ++ more ∷ [])))
