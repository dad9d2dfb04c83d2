-- The counts that a port keeps of its faults and of its shortages of memory (this project's own).
use Rattle.std.specs.Prelude.{ℕ, ◌<◌, ◌≤◌, ◌+◌, ◌-◌, ◌^◌, ◌⊎◌, Result, IsErrOf, cond, nat_lt}
use Rattle.bt_base.specs.declared.ports.PortFault.{PortFault}
use Rattle.bt_base.specs.declared.ports.PortFault.TheVariants.{Failed, NoMemory}

-- the greatest value of a count: one that stands there does not move any more
abbrev pub last_count : ℕ
last_count = 2 ^ 64 - 1

-- one more, unless the count stands at its end
abbrev pub counted : ℕ → ℕ
counted count = cond (nat_lt count last_count) (count + 1) count

-- The count rose. One that stands at its end counts as risen where its rise permits an answer.
abbrev pub HasRisen : ℕ → ℕ → Type 0
HasRisen before after = (before < after) ⊎ (last_count ≤ before)

-- What every call of a port says of its counts and its answer: no count falls, each answer that is not Ok has
-- its cause, and a count that rises is answered.
pub record HasCause {A : Type 0} (faults faults' shortages shortages' : ℕ) (result : Result A PortFault) : Type 0 where
  pub faults_stay : faults ≤ faults'
  pub shortages_stay : shortages ≤ shortages'
  pub failed : IsErrOf result Failed → HasRisen faults faults'
  pub short : IsErrOf result NoMemory → HasRisen shortages shortages'
  pub only_failed : faults < faults' → IsErrOf result Failed
  pub only_short : shortages < shortages' → IsErrOf result NoMemory
