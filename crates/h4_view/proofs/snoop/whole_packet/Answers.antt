use Rattle.std.proofs.Common.{arith}
use Rattle.capture.proofs.FrontLaws.{whole_only}
use Rattle.h4_view.proofs.snoop.whole_packet.Goals as goal

pub returns-then-length-octets-clause-none : goal.returns-then-length-octets-clause-none
returns-then-length-octets-clause-none c p is e = omega (arith, c.if-length-octets.true, whole_only c.args.octets.now c.in-Whole.unit c.in-Whole.length p c.in-Whole.ensures is e)
