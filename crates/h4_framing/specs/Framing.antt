-- What contracts see of a framer.
use Rattle.std.specs.Prelude.{ℕ, ◌+◌, ◌-◌, ◌^◌, List, Option, min}
use Rattle.h4_framing.specs.declared.refusal.H4Refusal.{H4Refusal}

-- how far it has come in a stream
pub record Framing : Type 0 where
  -- the greatest number of octets of an ACL packet
  pub limit : ℕ
  -- how many octets were fed before those that are held
  pub before : ℕ
  -- the octets of the packet that is not whole yet
  pub held : List ℕ
  -- why and where the stream was refused
  pub fault : Option (H4Refusal × ℕ)

-- a count of octets that stands still at the greatest number of 64 bits
abbrev pub counted : ℕ → ℕ → ℕ
counted before n = min (before + n) (2 ^ 64 - 1)
