use Rattle.std.proofs.Common.{length, map}
use Rattle.object_lines.specs.Tallies.{plain_told, plain_tally}
use Rattle.object_lines.proofs.Packeting.{IsPacked}
use Rattle.object_lines.proofs.streams.hear_packets.Given as goal

abbrev pub invariant-packets : goal.invariant-packets
invariant-packets l = IsPacked l.most l.fn.stream l.rest (plain_tally l.fn.tally) (plain_tally l.tally) (map plain_told l.fn.found.items) (map plain_told l.found.items)

abbrev pub decreases-packets : goal.decreases-packets
decreases-packets l = length l.rest
