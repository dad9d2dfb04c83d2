-- What a call that writes to the front of a slice leaves there.
use Rattle.std.specs.Prelude.{ℕ, ◌≡◌, List, ◌++◌, length, drop}

-- so many octets were written, these, and the slice is as it was behind them
abbrev pub Writes : List ℕ → List ℕ → ℕ → List ℕ → Type 0
Writes old new count octets = (count ≡ length octets) × (new ≡ octets ++ drop (length octets) old)
