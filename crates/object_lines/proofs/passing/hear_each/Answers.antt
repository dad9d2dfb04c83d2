use Rattle.std.proofs.Common.{map, arith}
use Rattle.link_readers.specs.Lent.{plain_meaning}
use Rattle.object_lines.specs.Tallies.{plain_told}
use Rattle.object_lines.proofs.OnePass.{heard_turn}
use Rattle.object_lines.proofs.passing.hear_each.Goals as goal

pub loop-one-preserved : goal.loop-one-preserved
loop-one-preserved c =
    heard_turn c.args.party.now c.args.taken.now (plain_meaning c.args.more.now) c.loop-one.kept c.args.kept.now (map plain_told c.args.found.now.items) (map plain_told c.loop-one.found.items) _ c.loop-one.one-index c.hear.new.self c.one-item.result
    (omega arith) (omega arith) c.loop-one.invariant c.in_ok-hear.ensures.kept c.in_ok-hear.ensures.told
