-- Octets written into others.
use Rattle.std.specs.Prelude.{ℕ, ◌+◌, List, ◌++◌, length, take, drop}

-- what octets are after a piece was written over them from a place on
abbrev pub overwritten : ℕ → List ℕ → List ℕ → List ℕ
overwritten place piece octets = take place octets ++ (piece ++ drop (place + length piece) octets)
