use Rattle.std.proofs.Common.{arith}
use Rattle.std.proofs.lemmas.List.{take_rest}
use Rattle.ertm_frames.specs.Answers.{answer}
use Rattle.ertm_frames.proofs.Judging.{start_is}
use Rattle.ertm_frames.proofs.reading.start.Goals as goal

pub returns : goal.returns
returns c =
    start_is c.args.mps c.args.control c.word_at.result c.args.body.now _ (answer c.measured.result) (λ i. omega (arith, c.type_inv.body i))
    c.if-body-lt2.false c.requires (omega arith) c.word_at.ensures (take_rest c.args.body.now 2) c.measured.ensures
