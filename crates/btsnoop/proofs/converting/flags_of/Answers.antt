use Rattle.std.proofs.Common.{arith}
use Rattle.capture.proofs.FrontLaws.{whole_only}
use Rattle.btsnoop.proofs.converting.flags_of.Goals as goal

pub returns-then-length-payload-clause-none : goal.returns-then-length-payload-clause-none
returns-then-length-payload-clause-none c p is e = omega (arith, c.if-length-payload.true, whole_only c.args.payload.now c.in-Whole.unit c.in-Whole.length p c.in-Whole.ensures is e)
