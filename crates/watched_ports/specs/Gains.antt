-- What an inbox gained while it was watched (this project's own).
use Rattle.std.specs.Prelude.{ℕ, ◌≡◌, ◌-◌, ◌^◌, ◌≤◌, min, length, take, Option, Some}
use Rattle.bt_base.specs.Objects.{Contents}

-- the greatest number of 32 bits
abbrev pub most_kept : ℕ
most_kept = 2 ^ 32 - 1

-- Behind what it had stored stand the objects that it gained, and so many were counted, to the greatest number of 32 bits.
pub record HasKept (before : Contents) (kept : ℕ) (after : Contents) : Type 0 where
  pub more : length before.stored ≤ length after.stored
  pub front : take (length before.stored) after.stored ≡ before.stored
  pub counted : kept ≡ min (length after.stored - length before.stored) most_kept

-- the same where it tells what it holds
abbrev pub Keeps : Option Contents → ℕ → Option Contents → Type 0
Keeps past kept now = (before after : Contents) → past ≡ Some before → now ≡ Some after → HasKept before kept after
