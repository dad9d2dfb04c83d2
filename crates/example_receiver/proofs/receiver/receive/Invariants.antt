use Rattle.bt_host.specs.Serving.{Works}
use Rattle.example_receiver.proofs.receiver.receive.Given as goal

abbrev pub invariant-loop : goal.invariant-loop
invariant-loop g l = Works l.host.stack.upper.end.end (g.B.Inbox.is_pending l.inbox)
