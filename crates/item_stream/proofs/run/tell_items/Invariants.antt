use Rattle.std.proofs.Common.{◌≤◌, ◌-◌, length, drop}
use Rattle.item_stream.proofs.Telling.{HasTold}
use Rattle.item_stream.proofs.run.tell_items.Given as goal

abbrev pub invariant-loop-front : goal.invariant-loop-front
invariant-loop-front g l = (l.used ≤ length l.octets) × HasTold g.T.Teller.has_told l.initial.teller l.teller l.octets (drop l.used l.octets) l.initial.text.items l.text.items

abbrev pub decreases-loop-front : goal.decreases-loop-front
decreases-loop-front g l = length l.octets - l.used
