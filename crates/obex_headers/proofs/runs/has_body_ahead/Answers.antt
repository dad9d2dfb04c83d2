use Rattle.obex_headers.proofs.ReaderLaws.{found_ahead, nothing_found}
use Rattle.obex_headers.proofs.runs.has_body_ahead.Goals as goal

pub returns-then-is_some-2 : goal.returns-then-is_some-2
returns-then-is_some-2 c =
    found_ahead c.args.headers.now c.loop-header.header-index _ c.text_of.result c.body.result c.loop-header-test.true c.text_of.ensures c.if-is_some.ensures c.body.ensures c.if-is_some-2.ensures c.loop-header.invariant

pub loop-header-preserved : goal.loop-header-preserved
loop-header-preserved c =
    nothing_found c.args.headers.now c.loop-header.header-index _ c.text_of.result c.body.result c.loop-header-test.true c.text_of.ensures c.if-is_some.ensures c.body.ensures c.if-is_some-2.ensures c.loop-header.invariant
