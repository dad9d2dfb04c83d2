use Rattle.std.proofs.Common.{◌≡◌, ◌-◌, length, take, drop, ap, arith}
use Rattle.ertm_frames.specs.Answers.{answer}
use Rattle.ertm_frames.proofs.Judging.{answer_is}
use Rattle.ertm_frames.proofs.reading.frame_of.Goals as goal

pub returns : goal.returns
returns c =
    let pdu = c.args.pdu.now in
    let all = c.in_ok-control.ensures in
    let n : length pdu - 2 - 6 ≡ length pdu - 8 = omega arith in
    answer_is c.args.mps c.in_ok-control.control pdu _ (answer c.judged.result) (λ i. omega (arith, c.type_inv.pdu i)) all.0 all.1 all.2
    (ap (λ k. take k (drop 6 pdu)) n) c.judged.ensures
