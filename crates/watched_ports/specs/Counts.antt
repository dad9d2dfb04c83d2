-- Counts of a port that is watched (this project's own).
use Rattle.std.specs.Prelude.{ℕ, ◌≡◌, ◌+◌, ◌<◌, ◌≤◌, Bool, true, if◌then◌else◌}
use Rattle.bt_base.specs.Counts.{last_count}

-- A count did not fall; where it rose that was noted, and where something was noted it rose, unless it stood at its last value.
pub record IsNoted (past now : ℕ) (noted : Bool) : Type 0 where
  pub stays : past ≤ now
  pub noted_is : past < now → noted ≡ true
  pub rose : noted ≡ true → past < last_count → past < now

-- the count of a sink that answers its refusal again and again: it stands at its last value
abbrev pub count_behind : Bool → ℕ → ℕ
count_behind refused count = if refused then count + last_count else count
