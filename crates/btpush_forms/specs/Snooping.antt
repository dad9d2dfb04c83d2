-- The form `snoop`: a capture is made the btsnoop file of one of its hosts (this project's own).
use Rattle.std.specs.Prelude.{ℕ, ◌≡◌, List, Option, codes, Result, Ok, Err}
use Rattle.push_terms.specs.declared.word.Side.{Side}
use Rattle.btsnoop.specs.declared.refusal.SnoopRefusal.{SnoopRefusal}
use Rattle.btsnoop.specs.declared.refusal.SnoopRefusal.TheVariants.{BadMagic, BadVersion, BadLink, BadLength, Truncated, BadTag, BadRecord, TooLong}
use Rattle.btsnoop.specs.declared.fault.SnoopFault.{SnoopFault}
use Rattle.btsnoop.specs.declared.fault.SnoopFault.TheVariants as fault
use Rattle.btsnoop.specs.Converting.{Converts}
use Rattle.btpush_forms.specs.declared.status.Status.{Status}
use Rattle.btpush_forms.specs.declared.status.Status.TheVariants as status
use Rattle.btpush_forms.specs.Refusing.{Refuses}
use Rattle.btpush_forms.specs.Carrying.{place_line}

-- the name of a refusal
abbrev pub refusal_name : SnoopRefusal → List ℕ
refusal_name BadMagic = codes "BadMagic"
refusal_name BadVersion = codes "BadVersion"
refusal_name BadLink = codes "BadLink"
refusal_name BadLength = codes "BadLength"
refusal_name Truncated = codes "Truncated"
refusal_name BadTag = codes "BadTag"
refusal_name BadRecord = codes "BadRecord"
refusal_name TooLong = codes "TooLong"

-- How the end of a conversion is told: by the status alone, or, where the capture is refused, by a line in the trace too, of
-- which after a fault a front is there.
abbrev pub Tells : Result (Unit {0}) SnoopFault → Option (List ℕ) → Option (List ℕ) → Status → Type 0
Tells (Ok done) trace trace' result = (result ≡ status.Ok) × (trace' ≡ trace)
Tells (Err (fault.Refused refusal place)) trace trace' result = Refuses (place_line (refusal_name refusal) place) trace trace' result
Tells (Err fault.ReadFault) trace trace' result = (result ≡ status.ReadFault) × (trace' ≡ trace)
Tells (Err fault.WriteFault) trace trace' result = (result ≡ status.WriteFault) × (trace' ≡ trace)
Tells (Err fault.NoMemory) trace trace' result = (result ≡ status.NoMemory) × (trace' ≡ trace)

-- The form `snoop` on an input, of which the source then has `left`: the sink gains the file of that host's packets, and then
-- the end is told.
abbrev pub Snoops : Side → List ℕ → Option (List ℕ) → Option (List ℕ) → Option (List ℕ) → Option (List ℕ) → Option (List ℕ) → Status → Type 0
Snoops side input left sink sink' trace trace' result = (end : Result (Unit {0}) SnoopFault) × Converts side input left sink sink' end × Tells end trace trace' result
