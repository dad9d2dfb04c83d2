use Rattle.std.proofs.Common.{◌≡◌, length}
use Rattle.std.specs.List.{list_any}
use Rattle.hci_packets.specs.Refusals.{bad_handle}
use Rattle.hci_packets.specs.Events.{entries_of}
use Rattle.hci_packets.proofs.reading_events.has_bad_handle.Given as goal

abbrev pub invariant-loop-rest : goal.invariant-loop-rest
invariant-loop-rest l =
    list_any (λ entry. bad_handle entry.0) (entries_of l.rest) ≡ list_any (λ entry. bad_handle entry.0) (entries_of l.entries)

abbrev pub decreases-loop-rest : goal.decreases-loop-rest
decreases-loop-rest l = length l.rest
