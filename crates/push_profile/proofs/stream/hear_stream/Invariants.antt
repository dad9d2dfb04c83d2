use Rattle.std.proofs.Common.{◌≡◌, ◌++◌, false, length}
use Rattle.obex_session.specs.Counting.{counts_of}
use Rattle.push_model.specs.Sessions.{is_pending}
use Rattle.push_model.specs.Listening.{stops}
use Rattle.push_profile.specs.Hearing.{Suits}
use Rattle.push_profile.proofs.StreamSteps.{IsLeft}
use Rattle.push_profile.proofs.stream.hear_stream.Given as goal

-- what is left of the stream brings the listener to where all of it does
abbrev pub invariant-loop-next : goal.invariant-loop-next
invariant-loop-next g l = record {
  left : IsLeft (l.initial.assembler.held ++ l.octets) (l.assembler.held ++ l.rest) l.initial.listener l.listener (g.B.Inbox.content l.initial.inbox) (g.B.Inbox.content l.inbox) (counts_of g.B.Inbox.faults g.B.Inbox.shortages l.initial.inbox) (counts_of g.B.Inbox.faults g.B.Inbox.shortages l.inbox);
  works : stops l.listener ≡ false;
  suits : Suits l.assembler l.listener;
  pending : g.B.Inbox.is_pending l.inbox ≡ is_pending l.listener.service.sessions;
}

abbrev pub decreases-loop-next : goal.decreases-loop-next
decreases-loop-next g l = length l.rest
