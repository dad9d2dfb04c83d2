use Rattle.std.proofs.Common.{List, ℕ, length, ap, subst, ◌∙◌}
use Rattle.hci_packets.specs.Commands.{AcceptConnection}
use Rattle.hci_packets.specs.Units.{Writes, command_unit}
use Rattle.hci_packets.proofs.Lists.{six_cells}
use Rattle.hci_packets.proofs.writing_commands.put_accept_connection.Goals as goal

pub returns : goal.returns
returns c =
    let cells = six_cells c.get.result (ap length c.get.ensures.value ∙ c.get.ensures.six) in
    subst (λ (address : List ℕ). Writes c.args.into.now c.put_row.new.into c.put_row.result (command_unit (AcceptConnection address c.args.role)))
    (cells ∙ c.get.ensures.value) c.put_row.ensures
