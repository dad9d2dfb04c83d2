use Rattle.ertm_machine.proofs.Cutting.{continuation_cut}
use Rattle.ertm_machine.proofs.window.cut_off.Goals as goal

pub returns-in-Begun-2-clause-some : goal.returns-in-Begun-2-clause-some
returns-in-Begun-2-clause-some c =
    continuation_cut c.args.waiting c.args.count c.args.mps c.new-in-Begun-2.result c.requires.mps c.in-Begun-2.is c.new-in-Begun-2.ensures c.if-count-mps-2.false
