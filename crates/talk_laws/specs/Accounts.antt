-- Frames that are not acknowledged, and credits, in one pass (Core 5.1, Volume 3 Part A, 8.3 and 8.6; RFCOMM 1.2, 6.5).
use Rattle.std.specs.Prelude.{ℕ, ℤ, pos, ◌≡◌, ◌+◌, ◌-◌, ◌%◌, ◌-ℤ◌, Bool, false, List, [], ◌∷◌, ◌++◌, length, fold, if◌then◌else◌}
use Rattle.link_talk.specs.ertm_frames.specs.Picking.{Passage, Out, In, outs, ins, req_of, unacknowledged}
use Rattle.link_talk.specs.rfcomm_frames.specs.declared.connection.Role.{Role}
use Rattle.link_talk.specs.rfcomm_frames.specs.Multiplexing.{Passed, Framed, frames, granted_by, spent_by}
use Rattle.link_talk.specs.rfcomm_frames.specs.Ending.{Course, no_course, course_after, is_last}
use Rattle.link_talk.specs.rfcomm_frames.specs.UserChannel.{credits_held}
use Rattle.link_talk.specs.Picks.{pick}

-- ---- I-frames

-- how many went out anew, and which number the peer awaits
pub record Window : Type 0 where
  pub given : ℕ
  pub awaited : ℕ

abbrev pub nothing_given : Window
nothing_given = record { given = 0; awaited = 0 }

abbrev pub window_after : Window → Passage → Window
window_after window (Out frame) = record window { given = window.given + length (pick window.given frame) }
window_after window (In frame) = record window { awaited = req_of frame }

abbrev pub window_of : List Passage → Window
window_of passages = fold window_after nothing_given passages

-- how many are not acknowledged
abbrev pub used : Window → ℕ
used window = (window.given + 64 - window.awaited) % 64

-- ---- credits

-- how far the connections and the closing are, whether the multiplexer was closed, what the peer granted, and what was spent
-- of it
pub record Credits : Type 0 where
  pub course : Course
  pub closed : Bool
  pub granted : ℕ
  pub spent : ℕ

abbrev pub no_credits : Credits
no_credits = record { course = no_course; closed = false; granted = 0; spent = 0 }

-- behind a closing nothing counts
abbrev pub credits_after : ℕ → Role → Credits → Framed → Credits
credits_after dlci side credits f =
    if credits.closed then credits else
    (record {
      course = course_after dlci side credits.course f;
      closed = is_last dlci side credits.course f;
      granted = credits.granted + granted_by dlci side credits.course.lines f;
      spent = credits.spent + spent_by dlci side f;
    })

abbrev pub credits_of : ℕ → Role → List Framed → Credits
credits_of dlci side fs = fold (credits_after dlci side) no_credits fs

abbrev pub left : Credits → ℤ
left credits = pos credits.granted -ℤ pos credits.spent

-- ---- the laws

pub record AccountsLookBack : Type 0 where
  pub window : (passages : List Passage) → used (window_of passages) ≡ unacknowledged (outs passages) (ins passages)
  pub credits : (dlci : ℕ) (side : Role) (passed : List Passed) → left (credits_of dlci side (frames passed)) ≡ credits_held dlci side passed

-- one frame more
pub record AccountsGrow : Type 0 where
  pub window : (passages : List Passage) (more : Passage) → window_of (passages ++ more ∷ []) ≡ window_after (window_of passages) more
  pub credits : (dlci : ℕ) (side : Role) (fs : List Framed) (more : Framed) → credits_of dlci side (fs ++ more ∷ []) ≡ credits_after dlci side (credits_of dlci side fs) more
