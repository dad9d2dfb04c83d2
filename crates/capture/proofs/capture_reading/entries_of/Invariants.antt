use Rattle.std.proofs.Common.{length}
use Rattle.capture.proofs.CaptureLaws.{IsRead}
use Rattle.capture.proofs.capture_reading.entries_of.Given as goal

abbrev pub invariant-loop-rest : goal.invariant-loop-rest
invariant-loop-rest l = IsRead l.octets l.entries.items l.rest

abbrev pub decreases-loop-rest : goal.decreases-loop-rest
decreases-loop-rest l = length l.rest
