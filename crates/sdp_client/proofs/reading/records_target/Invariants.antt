use Rattle.std.proofs.Common.{length}
use Rattle.sdp_elements.specs.Elements.{Trees, left_of}
use Rattle.sdp_elements.specs.Spelling.{AreSpelledBy}
use Rattle.sdp_client.specs.Reading.{records_target}
use Rattle.sdp_client.proofs.Walks.{Finds}
use Rattle.sdp_client.proofs.reading.records_target.Given as goal

abbrev pub invariant-loop-service : goal.invariant-loop-service
invariant-loop-service l = (trees : Trees) → AreSpelledBy trees (left_of l.fn.records) → Finds records_target trees l.target (left_of l.left)

abbrev pub decreases-loop-service : goal.decreases-loop-service
decreases-loop-service l = length (left_of l.left)
