use Rattle.std.proofs.Common.{length}
use Rattle.sdp_elements.specs.Elements.{Trees, left_of}
use Rattle.sdp_elements.specs.Spelling.{AreSpelledBy}
use Rattle.sdp_client.specs.Reading.{record_target}
use Rattle.sdp_client.proofs.Walks.{Finds}
use Rattle.sdp_client.proofs.reading.record_target.Given as goal

abbrev pub invariant-loop-first : goal.invariant-loop-first
invariant-loop-first l = (trees : Trees) → AreSpelledBy trees (left_of l.fn.attributes) → Finds record_target trees l.target (left_of l.left)

abbrev pub decreases-loop-first : goal.decreases-loop-first
decreases-loop-first l = length (left_of l.left)
