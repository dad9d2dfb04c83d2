use Rattle.std.proofs.Common.{List, ℕ, length, ap, subst, ◌∙◌}
use Rattle.hci_packets.specs.Events.{ConnectionComplete}
use Rattle.hci_packets.specs.Units.{Writes, event_unit}
use Rattle.hci_packets.proofs.Lists.{six_cells}
use Rattle.hci_packets.proofs.writing_events.put_connection_complete.Goals as goal

pub returns : goal.returns
returns c =
    let a = c.args in
    let cells = six_cells c.get.result (ap length c.get.ensures.value ∙ c.get.ensures.six) in
    let row = rw c.octets_of.ensures at c.put_row.ensures in
    subst (λ (address : List ℕ). Writes a.into.now c.put_row.new.into c.put_row.result (event_unit (ConnectionComplete a.status a.handle address a.link a.encryption)))
    (cells ∙ c.get.ensures.value) row
