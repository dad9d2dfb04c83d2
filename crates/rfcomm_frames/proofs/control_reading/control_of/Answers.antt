use Rattle.std.proofs.Common.{refl, sym, arith}
use Rattle.rfcomm_frames.specs.Controls.{plain_control}
use Rattle.rfcomm_frames.proofs.Found.{no_front, passes_end, other_length, found}
use Rattle.rfcomm_frames.proofs.control_reading.control_of.Goals as goal

pub returns-in_default-split_length : goal.returns-in_default-split_length
returns-in_default-split_length c = no_front c.args.octets.now c.in-Some.behind.now c.in-Some.kind.now c.in-Some.ensures.cases.0 c.in_default-split_length.ensures.none

pub returns-then-rest-count : goal.returns-then-rest-count
returns-then-rest-count c =
    let f = c.in-Some-split_length.ensures.some in
    passes_end c.args.octets.now c.in-Some.behind.now f.0 c.in-Some-split_length.rest.now c.in-Some.kind.now c.in-Some-split_length.count c.in-Some.ensures.cases.0 f.1 f.2
    c.if-kind-eq0.false c.if-rest-count.true

pub returns-in_default-message : goal.returns-in_default-message
returns-in_default-message c =
    let f = c.in-Some-split_length.ensures.some in
    other_length c.args.octets.now c.in-Some.behind.now f.0 c.in-Some-split_length.rest.now c.in-Some.kind.now c.in-Some-split_length.count c.in-Some.ensures.cases.0 f.1 f.2
    c.if-kind-eq0.false (sym c.in_default-message.ensures)

pub returns : goal.returns
returns c =
    let f = c.in-Some-split_length.ensures.some in
    found c.args.octets.now c.in-Some.behind.now f.0 c.in-Some-split_length.rest.now c.in-Some.kind.now c.in-Some-split_length.count c.in-Some.ensures.cases.0 f.1 f.2
    (plain_control c.in-Some-message.control) _ (λ i. omega (arith, c.type_inv.octets i)) (omega (arith, c.if-kind-eq0.false)) c.if-rest-count.false refl (sym c.in-Some-message.ensures)
