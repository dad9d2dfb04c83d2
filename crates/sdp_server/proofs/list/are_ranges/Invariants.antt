use Rattle.std.proofs.Common.{length}
use Rattle.sdp_elements.specs.Elements.{Trees, left_of}
use Rattle.sdp_elements.specs.Spelling.{AreSpelledBy}
use Rattle.sdp_server.specs.Requests.{range_of}
use Rattle.sdp_server.proofs.Lists.{Judges}
use Rattle.sdp_server.proofs.list.are_ranges.Given as goal

abbrev pub invariant-loop-part : goal.invariant-loop-part
invariant-loop-part l = (trees : Trees) → AreSpelledBy trees (left_of l.fn.parts) → Judges range_of trees (left_of l.left)

abbrev pub decreases-loop-part : goal.decreases-loop-part
decreases-loop-part l = length (left_of l.left)
