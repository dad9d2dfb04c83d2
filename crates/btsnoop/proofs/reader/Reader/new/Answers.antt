use Rattle.std.proofs.Common.{arith}
use Rattle.btsnoop.specs.declared.fields.Part.TheVariants.{Header}
use Rattle.btsnoop.proofs.FieldLemmas.{nothing_unfinished}
use Rattle.btsnoop.proofs.reader.Reader.new.Goals as goal

pub invariant_of-result : goal.invariant_of-result
invariant_of-result c = (omega (arith, c.in_ok-buffer.ensures.capacity), omega arith, nothing_unfinished Header)
