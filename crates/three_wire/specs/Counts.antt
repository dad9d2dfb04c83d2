-- What a call says of the counts of a port.
use Rattle.std.specs.Prelude.{ℕ, ◌<◌, ◌≤◌, Result, IsErrOf}
use Rattle.three_wire.specs.declared.fault.CarryFault.{CarryFault}
use Rattle.three_wire.specs.declared.fault.CarryFault.TheVariants.{NoMemory}

-- No count of a port falls, and one that rises is answered: that of its faults by `failed`, that of its shortages by NoMemory.
pub record AnswersRises {A : Type 0} (faults faults' shortages shortages' : ℕ) (failed : CarryFault) (result : Result A CarryFault) : Type 0 where
  pub faults_stay : faults ≤ faults'
  pub shortages_stay : shortages ≤ shortages'
  pub only_failed : faults < faults' → IsErrOf result failed
  pub only_short : shortages < shortages' → IsErrOf result NoMemory
