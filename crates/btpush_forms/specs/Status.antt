-- The numbers of the statuses (this project's own).
use Rattle.std.specs.Prelude.{ℕ}
use Rattle.btpush_forms.specs.declared.status.Status.{Status}
use Rattle.btpush_forms.specs.declared.status.Status.TheVariants as status

-- the number with which the program ends
abbrev pub code_of : Status → ℕ
code_of status.Ok = 0
code_of status.SomeFailed = 1
code_of status.BadWords = 2
code_of status.InputRefused = 3
code_of status.ReadFault = 4
code_of status.WriteFault = 5
code_of status.NoMemory = 6
