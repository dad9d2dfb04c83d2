use Rattle.hci_packets.specs.Commands.{IsCommand, plain_command, command_refusal}
use Rattle.hci_packets.proofs.Reading.{all_read}
use Rattle.hci_packets.proofs.CommandLaws.{one_command, command_accepted}
use Rattle.hci_packets.proofs.reading_commands.command_of.Goals as goal

pub returns-clause-all : goal.returns-clause-all
returns-clause-all c =
    let n = c.args.opcode in
    let params = c.args.params.now in
    all_read plain_command (λ command. IsCommand command n params) (command_refusal n params)
    (λ first second. one_command first second n params) (λ command. command_accepted command n params)
    c.by_row.result c.by_row.ensures.read c.by_row.ensures.refused
