use Rattle.hci_packets.proofs.CommandLaws.{one_command, command_accepted}
use Rattle.hci_packets.proofs.laws.commands_both_ways.Goals as goal

pub returns : goal.returns
returns c = record { one = one_command; accepted = command_accepted }
