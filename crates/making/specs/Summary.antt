-- The summary of a run (this project's own).
use Rattle.std.specs.Prelude.{ℕ, List, ◌++◌, codes, decimal}

-- a line of a number
abbrev pub number_line : List ℕ → ℕ → List ℕ → List ℕ
number_line key number unit = key ++ decimal number ++ unit

-- how many of the eight pushes are done, how many objects the inbox stored, and how many octets these have together
abbrev pub summary_text : ℕ → ℕ → ℕ → List ℕ
summary_text done kept octets =
    number_line (codes "done ") done (codes " of 8\n")
    ++ number_line (codes "kept ") kept (codes "\n")
    ++ number_line (codes "octets ") octets (codes "\n")
