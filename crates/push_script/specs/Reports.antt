-- The report on what came of a scenario (this project's own).
use Rattle.std.specs.Prelude.{ℕ, ◌+◌, List, [], ◌∷◌, ◌++◌, codes, decimal, Option, Result}
use Rattle.bt_base.specs.Counts.{HasCause}
use Rattle.bt_base.specs.Streams.{IsPut}
use Rattle.bt_base.specs.declared.ports.PortFault.{PortFault}
use Rattle.push_terms.specs.Outcomes.{outcome_text}
use Rattle.push_terms.specs.declared.outcome.Outcome.{Outcome}
use Rattle.push_terms.specs.declared.peaks.Peaks.{Peaks}

-- what stands before the name in the line of a push: its number and what came of it
abbrev pub push_head : ℕ → Outcome → List ℕ
push_head number outcome = decimal number ++ codes " " ++ outcome_text outcome ++ codes " "

-- the line of a push
abbrev pub push_line : ℕ → Outcome → List ℕ → List ℕ
push_line number outcome name = push_head number outcome ++ (name ++ codes "\n")

-- the lines of pushes, numbered from that number on
abbrev pub push_lines : ℕ → List Outcome → List (List ℕ) → List ℕ
push_lines number [] names = []
push_lines number (outcome ∷ outcomes) [] = []
push_lines number (outcome ∷ outcomes) (name ∷ names) = push_line number outcome name ++ push_lines (number + 1) outcomes names

-- a line of a number of host a and one of host b, behind a key and a blank
abbrev pub pair_line : List ℕ → ℕ → ℕ → List ℕ
pair_line key a b = key ++ decimal a ++ codes " " ++ decimal b ++ codes "\n"

-- the lines below those of the pushes: the objects that were kept, and the greatest numbers of packets in the
-- controllers, of frames not acknowledged and of credits held
abbrev pub peaks_text : ℕ → Peaks → List ℕ
peaks_text kept peaks =
    codes "kept " ++ decimal kept ++ codes "\n"
    ++ pair_line (codes "buffers ") peaks.buffers_a peaks.buffers_b
    ++ pair_line (codes "window ") peaks.window_a peaks.window_b
    ++ pair_line (codes "credits ") peaks.credits_a peaks.credits_b

-- the report: a line for each push, numbered from 1, and the lines below
abbrev pub report_text : List (List ℕ) → List Outcome → ℕ → Peaks → List ℕ
report_text names outcomes kept peaks = push_lines 1 outcomes names ++ peaks_text kept peaks

-- A text was told to a sink, all of it or, after a fault, a front of it; each fault has its cause.
pub record Tells (old new : Option (List ℕ)) (faults faults' shortages shortages' : ℕ) (text : List ℕ) (result : Result (Unit {0}) PortFault) : Type 0 where
  pub put : IsPut old new text result
  pub cause : HasCause faults faults' shortages shortages' result
