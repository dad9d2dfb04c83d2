use Rattle.std.proofs.Common.{arith}
use Rattle.obex_headers.proofs.AssemblerLaws.{is_joined}
use Rattle.obex_headers.proofs.assembler.next_step.Goals as goal

pub returns-else-is_empty : goal.returns-else-is_empty
returns-else-is_empty c =
    is_joined c.args.maximum c.args.held.now c.args.piece.now c.stated-whole.result c.stated-whole.ensures c.requires c.if-whole-lt3.false (omega (arith, c.from.ensures)) c.if-total-whole.false
