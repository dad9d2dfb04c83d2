-- The greatest numbers of a capture (this project's own).
use Rattle.std.specs.Prelude.{ℕ, ◌∷◌, ◌++◌, List, [], fold, max}
use Rattle.capture.specs.Histories.{given_by}
use Rattle.push_terms.specs.declared.word.Side.{Side}
use Rattle.capture.specs.Entries.{Entry}
use Rattle.capture.specs.Buffers.{all_outstanding}

abbrev pub greatest : List ℕ → ℕ
greatest numbers = fold max 0 numbers

-- the greatest number of packets of a host that were outstanding at a moment
abbrev pub buffers_peak : Side → List Entry → ℕ
buffers_peak side entries = greatest (given_by (λ past entry. all_outstanding side (past ++ entry ∷ []) ∷ []) entries)
