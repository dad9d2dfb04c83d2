use Rattle.obex_headers.specs.Packets.{plain_header}
use Rattle.object_lines.specs.Tallies.{plain_tally}
use Rattle.object_lines.proofs.Tallying.{one_counted, all_counted}
use Rattle.object_lines.proofs.tally.Tally.add_headers.Goals as goal

pub loop-header-preserved : goal.loop-header-preserved
loop-header-preserved c = λ headers all e.
    one_counted (plain_tally c.args.self.now) (plain_tally c.loop-header.self) (plain_tally c.add_header.new.self) c.loop-header.left c.next.new.self (plain_header c.in-Some.header) headers
    (c.loop-header.invariant headers all e) c.in-Some.ensures.found.0 c.in-Some.ensures.found.1 c.in_ok-add_header.ensures

pub returns : goal.returns
returns c = λ headers all e.
    all_counted (plain_tally c.args.self.now) (plain_tally c.loop-header.self) c.loop-header.left headers (c.loop-header.invariant headers all e)
    (λ header rest h f. (c.in_default.ensures.only header rest h f).0)
