use Rattle.std.proofs.Common.{arith}
use Rattle.rfcomm_frames.proofs.Lengths.{one_split, two_split}
use Rattle.rfcomm_frames.proofs.length.split_length.Goals as goal

pub returns-then-first-eq1-clause-some : goal.returns-then-first-eq1-clause-some
returns-then-first-eq1-clause-some c =
    one_split c.args.octets.now c.in_ok-first.behind.now c.in_ok-first.first.now _ (λ i. omega (arith, c.type_inv.octets i)) c.in_ok-first.ensures.cases.0 c.if-first-eq1.true c.from.ensures

pub returns-clause-some : goal.returns-clause-some
returns-clause-some c =
    two_split c.args.octets.now c.in_ok-first.behind.now c.in_ok-second.behind.now c.in_ok-first.first.now c.in_ok-second.second.now _
    (λ i. omega (arith, c.type_inv.octets i)) c.in_ok-first.ensures.cases.0 c.in_ok-second.ensures.cases.0 c.if-first-eq1.false (omega (arith, c.from-2.ensures, c.from-3.ensures))
