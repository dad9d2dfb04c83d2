-- A packet that is too long for its receiver, as a reader passes it on.
use Rattle.std.specs.Prelude.{ℕ, List, [], length, nat_lt, if◌then◌else◌}

-- without its octets, so that it is refused
abbrev pub shortened : ℕ → List ℕ → List ℕ
shortened most packet = if nat_lt most (length packet) then [] else packet
