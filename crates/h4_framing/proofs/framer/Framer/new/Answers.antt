use Rattle.std.proofs.Common.{arith}
use Rattle.h4_framing.proofs.TakingLemmas.{nothing_unfinished}
use Rattle.h4_framing.proofs.framer.Framer.new.Goals as goal

pub invariant_of-result : goal.invariant_of-result
invariant_of-result c = (omega arith, omega (arith, c.in_ok-buffer.ensures.capacity), omega arith, nothing_unfinished c.args.limit)
