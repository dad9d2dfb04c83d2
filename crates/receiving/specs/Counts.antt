-- What a call says of the counts of its ports (this project's own).
use Rattle.std.specs.Prelude.{ℕ, ◌<◌, ◌≤◌, ◌⊎◌, Result, IsErrOf}
use Rattle.bt_base.specs.Counts.{HasRisen}
use Rattle.receiving.specs.declared.fault.ListenFault.{ListenFault}
use Rattle.receiving.specs.declared.fault.ListenFault.TheVariants.{NoMemory}

-- No count of a port falls, and one that rises is answered: that of its faults by `failed`, that of its shortages by NoMemory. That
-- fault comes only where the count of faults rose.
pub record Counts {A : Type 0} (faults faults' shortages shortages' : ℕ) (failed : ListenFault) (result : Result A ListenFault) : Type 0 where
  pub faults_stay : faults ≤ faults'
  pub shortages_stay : shortages ≤ shortages'
  pub only_failed : faults < faults' → IsErrOf result failed
  pub only_short : shortages < shortages' → IsErrOf result NoMemory
  pub rose : IsErrOf result failed → HasRisen faults faults'

-- want of memory comes only where a port found none
abbrev pub Lacked : {A : Type 0} → (source source' sink sink' port port' : ℕ) → Result A ListenFault → Type 0
Lacked source source' sink sink' port port' result = IsErrOf result NoMemory → HasRisen source source' ⊎ HasRisen sink sink' ⊎ HasRisen port port'
