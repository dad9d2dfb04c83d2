-- The form `wire`: the units of a source are carried over a three-wire line (this project's own).
use Rattle.std.specs.Prelude.{ℕ, ◌≡◌, ◌⊎◌, List, ◌++◌, Option, codes, decimal, Result, Ok, Err}
use Rattle.h4_framing.specs.declared.refusal.H4Refusal.{H4Refusal}
use Rattle.h4_framing.specs.declared.refusal.H4Refusal.TheVariants.{BadIndicator, AclTooLong, Truncated}
use Rattle.three_wire.specs.declared.fault.CarryEnd.{CarryEnd}
use Rattle.three_wire.specs.declared.fault.CarryEnd.TheVariants.{All, Spent}
use Rattle.three_wire.specs.declared.fault.CarryFault.{CarryFault}
use Rattle.three_wire.specs.declared.fault.CarryFault.TheVariants as fault
use Rattle.three_wire.specs.Carrying.{given, Carries}
use Rattle.btpush_forms.specs.declared.status.Status.{Status}
use Rattle.btpush_forms.specs.declared.status.Status.TheVariants as status
use Rattle.btpush_forms.specs.Refusing.{Refuses}

-- the name of a refusal
abbrev pub refusal_name : H4Refusal → List ℕ
refusal_name BadIndicator = codes "BadIndicator"
refusal_name AclTooLong = codes "AclTooLong"
refusal_name Truncated = codes "Truncated"

-- the place where a source is refused and the name of its refusal
abbrev pub place_line : List ℕ → ℕ → List ℕ
place_line name place = codes "refused offset " ++ decimal place ++ codes " " ++ name ++ codes "\n"

-- How the end of a run over the line is told: by the status alone, or, where the source is refused, by a line in the trace too,
-- of which after a fault a front is there.
abbrev pub Tells : Result CarryEnd CarryFault → Option (List ℕ) → Option (List ℕ) → Status → Type 0
Tells (Ok All) trace trace' result = (result ≡ status.Ok) × (trace' ≡ trace)
Tells (Ok Spent) trace trace' result = (result ≡ status.SomeFailed) × (trace' ≡ trace)
Tells (Err (fault.Refused refusal place)) trace trace' result = Refuses (place_line (refusal_name refusal) place) trace trace' result
Tells (Err (fault.TooLong place)) trace trace' result = Refuses (place_line (codes "TooLong") place) trace trace' result
Tells (Err fault.ReadFault) trace trace' result = (result ≡ status.ReadFault) × (trace' ≡ trace)
Tells (Err fault.WriteFault) trace trace' result = (result ≡ status.WriteFault) × (trace' ≡ trace)
Tells (Err fault.NoMemory) trace trace' result = (result ≡ status.NoMemory) × (trace' ≡ trace)

-- The form `wire`, with a number whose draws lose packets or without one: units of the input are carried over the line to the
-- sink, with an entry in the trace for each packet on it, and then its end is told. `Rose` says that a count of the sink or of
-- the trace rose.
pub record Wires (number : Option ℕ) (input sink sink' trace trace' : Option (List ℕ)) (Rose : Type 0) (result : Status) : Type 0 where
  pub end : Result CarryEnd CarryFault
  pub carried : Option (List ℕ)
  pub carries : Carries (given number input sink trace) sink' carried Rose end
  pub tells : Tells end carried trace' result

-- all was carried, or memory was wanting
abbrev pub IsWell : Status → Type 0
IsWell result = (result ≡ status.Ok) ⊎ (result ≡ status.NoMemory)
