use Rattle.std.proofs.Common.{◌≡◌, List, length}
use Rattle.std.specs.List.{AllByRecursion}
use Rattle.obex_headers.specs.Packets.{PlainHeader, IsHeader, headers_octets}
use Rattle.obex_session.specs.Rules.{is_under_way}
use Rattle.obex_session.proofs.PutLaws.{Goes}
use Rattle.obex_session.proofs.putting.on_headers.Given as goal

abbrev pub invariant-loop-header : goal.invariant-loop-header
invariant-loop-header g l = record {
  pending : g.B.Inbox.is_pending l.inbox ≡ is_under_way l.progress;
  goes : (headers : List PlainHeader) → AllByRecursion IsHeader headers → l.request.headers.now ≡ headers_octets headers
      → Goes l.initial.progress headers (g.B.Inbox.content l.initial.inbox) (g.B.Inbox.content l.inbox) (g.B.Inbox.faults l.initial.inbox) (g.B.Inbox.faults l.inbox) (g.B.Inbox.shortages l.initial.inbox) (g.B.Inbox.shortages l.inbox) l.left l.progress;
}

abbrev pub decreases-loop-header : goal.decreases-loop-header
decreases-loop-header g l = length l.left
