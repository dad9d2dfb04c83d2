-- What a call says of the count of faults of the trace (this project's own).
use Rattle.std.specs.Prelude.{ℕ, ◌≤◌, Result, IsErrOf}
use Rattle.bt_base.specs.Counts.{HasRisen}
use Rattle.radio_world.specs.declared.fault.WorldFault.{WorldFault}
use Rattle.radio_world.specs.declared.fault.WorldFault.TheVariants.{TraceFault}

-- The count does not fall, and `TraceFault` comes only where it rose.
pub record Blames {X : Type 0} (faults faults' : ℕ) (result : Result X WorldFault) : Type 0 where
  pub stays : faults ≤ faults'
  pub failed : IsErrOf result TraceFault → HasRisen faults faults'
