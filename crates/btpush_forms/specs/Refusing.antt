-- How a refusal is told (this project's own).
use Rattle.std.specs.Prelude.{ℕ, ◌≡◌, List, Option}
use Rattle.bt_base.specs.Streams.{gained, GainedFront}
use Rattle.btpush_forms.specs.declared.status.Status.{Status}
use Rattle.btpush_forms.specs.declared.status.Status.TheVariants as status

-- A refusal is told by this line, all of it, or after a fault a front of it.
abbrev pub Refuses : List ℕ → Option (List ℕ) → Option (List ℕ) → Status → Type 0
Refuses line old new status.InputRefused = new ≡ gained old line
Refuses line old new status.WriteFault = GainedFront old new line
Refuses line old new status.NoMemory = GainedFront old new line
Refuses line old new status.Ok = ⊥
Refuses line old new status.SomeFailed = ⊥
Refuses line old new status.BadWords = ⊥
Refuses line old new status.ReadFault = ⊥
