-- What an inbox gained (this project's own).
use Rattle.std.specs.Prelude.{ℕ, ◌≡◌, ◌++◌, min, List, length, Option, Some, None, IfSome}
use Rattle.bt_base.specs.Objects.{Object, Contents}
use Rattle.watched_ports.specs.Gains.{most_kept}

-- Behind what it had stored stand the objects that it gained; so many were counted, to the greatest number of 32 bits.
pub record IsGained (before : Contents) (kept : ℕ) (after : Contents) : Type 0 where
  pub gain : List Object
  pub stored : after.stored ≡ before.stored ++ gain
  pub counted : kept ≡ min (length gain) most_kept

-- the same where it tells what it holds
abbrev pub Gains : (before : Option Contents) → (kept : ℕ) → (after : Option Contents) → Type 0
Gains None kept after = Unit {0}
Gains (Some before) kept after = IfSome after (IsGained before kept)

-- some were gained
abbrev pub Grows : Option Contents → Option Contents → Type 0
Grows before after = (kept : ℕ) × Gains before kept after
