use Rattle.std.proofs.Common.{arith}
use Rattle.ertm_machine.proofs.Parts.{octets-append}
use Rattle.ertm_machine.proofs.piece.Piece.new.Goals as goal

pub returns-clause-octets : goal.returns-clause-octets
returns-clause-octets c = octets-append c.args.front.now c.args.back.now (λ i. omega (arith, c.type_inv.front i)) (λ i. omega (arith, c.type_inv.back i))
