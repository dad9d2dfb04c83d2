use Rattle.std.proofs.Common.{◌≤◌, length}
use Rattle.sdp_elements.specs.Elements.{Trees, left_of}
use Rattle.sdp_elements.specs.Spelling.{AreSpelledBy}
use Rattle.sdp_server.proofs.Patterns.{Counts}
use Rattle.sdp_server.proofs.pattern.is_pattern.Given as goal

abbrev pub invariant-loop-part : goal.invariant-loop-part
invariant-loop-part l = record {
  counts : (trees : Trees) → AreSpelledBy trees (left_of l.fn.parts) → Counts trees l.count (left_of l.left);
  within : l.count ≤ 12;
}

abbrev pub decreases-loop-part : goal.decreases-loop-part
decreases-loop-part l = length (left_of l.left)
