use Rattle.hci_packets.proofs.EventLaws.{one_event, event_accepted}
use Rattle.hci_packets.proofs.laws.events_both_ways.Goals as goal

pub returns : goal.returns
returns c = record { one = one_event; accepted = event_accepted }
