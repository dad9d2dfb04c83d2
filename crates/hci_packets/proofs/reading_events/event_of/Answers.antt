use Rattle.hci_packets.specs.Events.{IsEvent, plain_event, event_refusal}
use Rattle.hci_packets.proofs.Reading.{all_read}
use Rattle.hci_packets.proofs.EventLaws.{one_event, event_accepted}
use Rattle.hci_packets.proofs.reading_events.event_of.Goals as goal

pub returns-clause-all : goal.returns-clause-all
returns-clause-all c =
    let n = c.args.code in
    let params = c.args.params.now in
    all_read plain_event (λ event. IsEvent event n params) (event_refusal n params)
    (λ first second. one_event first second n params) (λ event. event_accepted event n params)
    c.by_row.result c.by_row.ensures.read c.by_row.ensures.refused
