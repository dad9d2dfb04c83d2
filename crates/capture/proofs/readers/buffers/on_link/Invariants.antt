use Rattle.std.proofs.Common.{◌≡◌, ◌≤◌, drop, fold}
use Rattle.std.specs.List.{flat_map}
use Rattle.acl_credits.specs.Histories.{outstanding_after}
use Rattle.capture.specs.Buffers.{buffer_events, outstanding_on_link}
use Rattle.capture.specs.Lent.{plain_moves, plain_link}
use Rattle.capture.proofs.readers.buffers.on_link.Given as goal

abbrev pub invariant-loop-moved : goal.invariant-loop-moved
invariant-loop-moved l =
    (fold (outstanding_after l.link.handle) l.waiting (flat_map buffer_events (plain_moves (drop l.moved-index l.link.moves.items))) ≡ outstanding_on_link (plain_link l.link))
    × (l.waiting ≤ l.moved-index)
