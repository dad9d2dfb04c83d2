use Rattle.std.proofs.Common.{rules, ◌≡◌, sym, ◌∙◌, ap, subst, Ok, Err, Result}
use Rattle.bt_base.specs.declared.ports.PortFault.{PortFault}
use Rattle.obex_headers.specs.Packets.{plain_header}
use Rattle.obex_session.specs.declared.course.Verdict.{Verdict}
use Rattle.obex_session.specs.Hearing.{Heeds, is_pending_after}
use Rattle.obex_session.specs.Rules.{at_header, after_headers}
use Rattle.obex_session.proofs.PutLaws.{begins, goes_on, goes_no_further, goes_wrong, goes_to_the_end}
use Rattle.obex_session.proofs.putting.on_headers.Goals as goal

pub loop-header-init : goal.loop-header-init
loop-header-init g c = record {
  pending = c.requires.pending;
  goes = λ headers sound is. begins _ headers _ _ _ _ sound (c.headers_of-left.ensures ∙ is);
}

pub loop-header-preserved : goal.loop-header-preserved
loop-header-preserved g c = record {
  pending = c.in_ok-ended.ensures.pending ∙ ap (λ (v : Verdict). is_pending_after (Ok v)) c.in-Open.is;
  goes = λ headers sound is.
      goes_on _ headers _ _ _ _ _ _ _ _ _ _ _ _ c.in-Open.next (plain_header c.in-Some.header) (c.loop-header.invariant.goes headers sound is)
      (record { stood = c.in-Some.ensures.found.1; first = c.in-Some.ensures.only })
      (subst (λ (v : Verdict). Heeds (at_header c.loop-header.progress (plain_header c.in-Some.header)) (g.B.Inbox.content c.loop-header.inbox) (g.B.Inbox.content c.on_header.new.inbox)
      (g.B.Inbox.faults c.loop-header.inbox) (g.B.Inbox.faults c.on_header.new.inbox) (g.B.Inbox.shortages c.loop-header.inbox) (g.B.Inbox.shortages c.on_header.new.inbox) (Ok v)) c.in-Open.is c.in_ok-ended.ensures.heeds);
}

pub returns-in_default-2-clause-heeds : goal.returns-in_default-2-clause-heeds
returns-in_default-2-clause-heeds g c = λ headers sound is.
    goes_no_further _ headers _ _ _ _ _ _ _ _ _ _ c.next.new.self _ c.in_ok-ended.ended (plain_header c.in-Some.header) (c.loop-header.invariant.goes headers sound is)
    (record { stood = c.in-Some.ensures.found.1; first = c.in-Some.ensures.only }) c.in_default-2.not-Open c.in_ok-ended.ensures.heeds

pub returns-in_err-ended-clause-heeds : goal.returns-in_err-ended-clause-heeds
returns-in_err-ended-clause-heeds g c = λ headers sound is.
    let same : c.from_residual.result ≡ Err (c.in_err-ended.field-0.0) = search rules in
    subst (λ (r : Result Verdict PortFault). Heeds (after_headers c.args.progress headers) (g.B.Inbox.content c.args.inbox.now) (g.B.Inbox.content c.on_header.new.inbox)
    (g.B.Inbox.faults c.args.inbox.now) (g.B.Inbox.faults c.on_header.new.inbox) (g.B.Inbox.shortages c.args.inbox.now) (g.B.Inbox.shortages c.on_header.new.inbox) r) (sym same)
    (goes_wrong _ headers _ _ _ _ _ _ _ _ _ _ c.next.new.self _ c.in_err-ended.field-0.0 (plain_header c.in-Some.header) (c.loop-header.invariant.goes headers sound is)
    (record { stood = c.in-Some.ensures.found.1; first = c.in-Some.ensures.only }) c.in_err-ended.ensures.heeds)

pub returns-clause-heeds : goal.returns-clause-heeds
returns-clause-heeds g c = λ headers sound is. goes_to_the_end _ headers _ _ _ _ _ _ _ _ (c.loop-header.invariant.goes headers sound is) (λ header rest h f. (c.in_default.ensures.only header rest h f).0)
