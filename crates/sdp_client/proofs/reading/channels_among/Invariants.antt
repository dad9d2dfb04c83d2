use Rattle.std.proofs.Common.{length}
use Rattle.sdp_elements.specs.Elements.{Trees, left_of}
use Rattle.sdp_elements.specs.Spelling.{AreSpelledBy}
use Rattle.sdp_client.proofs.Walks.{Seeks}
use Rattle.sdp_client.proofs.reading.channels_among.Given as goal

abbrev pub invariant-loop-protocol : goal.invariant-loop-protocol
invariant-loop-protocol l = (trees : Trees) → AreSpelledBy trees (left_of l.fn.protocols) → Seeks trees (left_of l.left)

abbrev pub decreases-loop-protocol : goal.decreases-loop-protocol
decreases-loop-protocol l = length (left_of l.left)
