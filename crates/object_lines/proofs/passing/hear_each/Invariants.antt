use Rattle.std.proofs.Common.{map}
use Rattle.link_readers.specs.Lent.{plain_meaning}
use Rattle.object_lines.specs.Tallies.{plain_told}
use Rattle.object_lines.proofs.OnePass.{AreHeard}
use Rattle.object_lines.proofs.passing.hear_each.Given as goal

abbrev pub invariant-loop-one : goal.invariant-loop-one
invariant-loop-one l = AreHeard l.party l.taken (plain_meaning l.more) l.kept l.fn.kept (map plain_told l.fn.found.items) (map plain_told l.found.items) l.one-index
