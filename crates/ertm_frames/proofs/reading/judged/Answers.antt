use Rattle.std.proofs.Common.{sym, ◌∙◌, arith}
use Rattle.ertm_frames.specs.Answers.{answer}
use Rattle.ertm_frames.proofs.Judging.{segment_is}
use Rattle.ertm_frames.proofs.reading.judged.Goals as goal

pub returns-then-control-eq1 : goal.returns-then-control-eq1
returns-then-control-eq1 c = c.supervisory.ensures c.args.mps

pub returns : goal.returns
returns c = segment_is c.args.mps c.args.control c.args.body.now (answer c.measured.result) (λ i. omega (arith, c.type_inv.body i)) (omega arith, λ e. c.if-control-from.false (e ∙ sym c.from.ensures)) (omega arith) c.measured.ensures
