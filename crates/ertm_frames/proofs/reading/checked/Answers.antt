use Rattle.std.proofs.Common.{◌≡◌, ◌+◌, ◌-◌, length, sym, ◌∙◌, arith}
use Rattle.ertm_frames.proofs.Parts.{check_is}
use Rattle.ertm_frames.proofs.reading.checked.Goals as goal

pub returns-then-fcs16-word_at : goal.returns-then-fcs16-word_at
returns-then-fcs16-word_at c =
    let pdu = c.args.pdu.now in
    let n = length pdu - 2 in
    let e : n + 2 ≡ length pdu = omega arith in
    let both = check_is pdu n c.fcs16.result (λ i. omega (arith, c.type_inv.pdu i)) e (omega arith) c.fcs16.ensures in (
      (omega arith, omega (arith, c.word_at.ensures)),
      (λ holds. c.if-fcs16-word_at.true (both.0 holds ∙ sym c.word_at-2.ensures)),
    )

pub returns : goal.returns
returns c =
    let pdu = c.args.pdu.now in
    let n = length pdu - 2 in
    let e : n + 2 ≡ length pdu = omega arith in
    let both = check_is pdu n c.fcs16.result (λ i. omega (arith, c.type_inv.pdu i)) e (omega arith) c.fcs16.ensures in (
      (omega arith, omega (arith, c.word_at.ensures)),
      both.1 (c.if-fcs16-word_at.false ∙ c.word_at-2.ensures),
      c.word_at-3.ensures,
    )
