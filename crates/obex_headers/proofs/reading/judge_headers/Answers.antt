use Rattle.std.proofs.Common.{◌<◌, ◌∷◌, ◌++◌, [], length, sym, ◌∙◌, arith}
use Rattle.std.proofs.lemmas.Bool.{eqb-true, eqb-false}
use Rattle.std.proofs.lemmas.Result.{err_from_is_err_and}
use Rattle.obex_headers.specs.Packets.{plain_header}
use Rattle.obex_headers.proofs.HeaderLaws.{header_len, goes_on, stops, ends}
use Rattle.obex_headers.proofs.reading.judge_headers.Goals as goal

pub returns-in_err-behind : goal.returns-in_err-behind
returns-in_err-behind c =
    let p = err_from_is_err_and c.from_residual.result c.from_residual.ensures.1 in
    let some = eqb-false (length c.loop-rest.rest.now) 0 (sym c.is_empty.ensures ∙ c.loop-rest-test.true) in
    let left : 0 < length c.loop-rest.rest.now = omega arith in
    rw (p.1, p.2) (stops c.args.octets.now c.loop-rest.invariant.0 c.loop-rest.rest.now c.in_err-behind.field-0.0 c.loop-rest.invariant.1 left c.in_err-behind.ensures.read)

pub loop-rest-smaller : goal.loop-rest-smaller
loop-rest-smaller c = header_len c.loop-rest.rest.now _ c.in_ok-behind.ensures.read

pub loop-rest-preserved : goal.loop-rest-preserved
loop-rest-preserved c =
    let x = c.in_ok-behind.field-0-0 in
    (c.loop-rest.invariant.0 ++ plain_header x ∷ [], goes_on c.args.octets.now c.loop-rest.invariant.0 c.loop-rest.rest.now (plain_header x, c.in_ok-behind.behind.now) c.loop-rest.invariant.1 c.in_ok-behind.ensures.read)

pub returns : goal.returns
returns c = (c.loop-rest.invariant.0, ends c.args.octets.now c.loop-rest.invariant.0 c.loop-rest.rest.now c.loop-rest.invariant.1 (eqb-true _ _ (sym c.loop-rest-test.ensures)))
