use Rattle.std.proofs.Common.{◌++◌}
use Rattle.obex_headers.specs.Reader.{plain_headers}
use Rattle.obex_headers.proofs.ReaderLaws.{one_added, all_added}
use Rattle.obex_headers.proofs.runs.go_on.Goals as goal

pub loop-header-preserved : goal.loop-header-preserved
loop-header-preserved c = λ headers all e.
    one_added c.loop-header.left c.next.new.self c.loop-header.run.items c.push.new.self.items c.in-Some.header (plain_headers c.args.run.now.items ++ headers)
    (c.loop-header.invariant headers all e) c.in-Some.ensures.found.0 c.in-Some.ensures.found.1 c.in_ok-push.ensures.items

pub returns : goal.returns
returns c = λ headers all e.
    all_added c.loop-header.left (plain_headers c.loop-header.run.items) (plain_headers c.args.run.now.items ++ headers) (c.loop-header.invariant headers all e)
    (λ header rest h f. (c.in_default.ensures.only header rest h f).0)
