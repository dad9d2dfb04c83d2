use Rattle.std.proofs.Common.{List, ℕ, length}
use Rattle.object_lines.proofs.Splitting.{IsSplit}
use Rattle.object_lines.proofs.streams.packets_end.Given as goal

abbrev pub invariant-packets : goal.invariant-packets
invariant-packets l = (packets : List (List ℕ)) × IsSplit l.fn.stream packets l.rest

abbrev pub decreases-packets : goal.decreases-packets
decreases-packets l = length l.rest
