-- Each file header and each record has octets.
use Rattle.std.proofs.Common.{ℕ, ◌<◌, List, arith}
use Rattle.btsnoop.specs.declared.fields.Part.{Part}
use Rattle.btsnoop.specs.declared.fields.Part.TheVariants.{Header, Body}
use Rattle.btsnoop.specs.Fields.{told_length}
use Rattle.btsnoop.proofs.FieldLemmas.{told_header, told_least}

pub told_some : (part : Part) (xs : List ℕ) → 0 < told_length part xs
told_some Header xs = omega (arith, told_header xs)
told_some Body xs = omega (arith, told_least Body xs)
