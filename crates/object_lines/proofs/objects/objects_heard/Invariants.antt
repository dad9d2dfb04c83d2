use Rattle.std.proofs.Common.{length}
use Rattle.object_lines.proofs.Heard.{IsAt}
use Rattle.object_lines.proofs.objects.objects_heard.Given as goal

abbrev pub invariant-loop-rest : goal.invariant-loop-rest
invariant-loop-rest l = IsAt l.party l.octets l.rest l.hearer

abbrev pub decreases-loop-rest : goal.decreases-loop-rest
decreases-loop-rest l = length l.rest
