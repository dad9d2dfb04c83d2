use Rattle.std.proofs.Common.{refl, sym, ◌∙◌}
use Rattle.hci_packets.proofs.Entries.{first_and_rest, entries_allowed}
use Rattle.hci_packets.proofs.reading_events.completed_packets.Goals as goal

pub returns-clause-read : goal.returns-clause-read
returns-clause-read c =
    record {
      number = refl;
      octets = first_and_rest c.args.params.now c.in-len1-up.len_at_least;
      fits = tt;
      allowed = entries_allowed _ _ _ c.from.ensures c.in_ok-of_length.ensures (sym c.has_bad_handle.ensures ∙ c.if-has_bad_handle.false);
    }
