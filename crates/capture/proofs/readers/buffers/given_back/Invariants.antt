use Rattle.std.proofs.Common.{◌≡◌, ◌≤◌, fold, map, length}
use Rattle.hci_packets.specs.Events.{entries_of}
use Rattle.acl_credits.specs.Histories.{Completed, outstanding_after}
use Rattle.capture.proofs.readers.buffers.given_back.Given as goal

abbrev pub invariant-loop-rest : goal.invariant-loop-rest
invariant-loop-rest l =
    (fold (outstanding_after l.handle) l.left (map (λ entry. Completed entry.0 entry.1) (entries_of l.rest))
    ≡ fold (outstanding_after l.handle) l.waiting (map (λ entry. Completed entry.0 entry.1) (entries_of l.entries)))
    × (l.left ≤ l.waiting)

abbrev pub decreases-loop-rest : goal.decreases-loop-rest
decreases-loop-rest l = length l.rest
