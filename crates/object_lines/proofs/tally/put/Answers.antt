use Rattle.std.proofs.Common.{sym, arith}
use Rattle.object_lines.proofs.Tallying.{put_is}
use Rattle.object_lines.proofs.tally.put.Goals as goal

pub returns-in-Ok : goal.returns-in-Ok
returns-in-Ok c = put_is c.args.most c.args.octets.now c.in-Ok.packet (λ i. omega (arith, c.type_inv.octets i)) c.in-Ok.ensures.exact (sym c.if-is_put.ensures)
