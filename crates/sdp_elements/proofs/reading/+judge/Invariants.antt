use Rattle.std.proofs.Common.{◌-◌, length}
use Rattle.sdp_elements.specs.Elements.{plain, content_of}
use Rattle.sdp_elements.proofs.ReadingLaws.{Decides}
use Rattle.sdp_elements.proofs.reading.+judge.Given as goal

abbrev pub decreases-judge : goal.decreases-judge
decreases-judge l = l.levels

abbrev pub invariant-loop-left : goal.invariant-loop-left
invariant-loop-left l = Decides (l.levels - 1) (content_of (plain l.element)) l.left

abbrev pub decreases-loop-left : goal.decreases-loop-left
decreases-loop-left l = length l.left
