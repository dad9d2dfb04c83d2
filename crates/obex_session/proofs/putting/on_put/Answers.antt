use Rattle.std.proofs.Common.{true, cond, ◌≡◌, sym, ◌∙◌, subst, Ok, [], eqb}
use Rattle.std.proofs.lemmas.Bool.{cond-true, eq-eqb}
use Rattle.obex_session.specs.declared.course.Verdict.{Verdict}
use Rattle.obex_session.specs.Hearing.{Heeds}
use Rattle.obex_session.specs.Rules.{Ruling, after_headers, finished, opens}
use Rattle.obex_session.proofs.HeedingLaws.{heeds_then, headers_store}
use Rattle.obex_session.proofs.putting.on_put.Goals as goal

pub returns-in-Open-clause-heeds : goal.returns-in-Open-clause-heeds
returns-in-Open-clause-heeds g c = λ headers sound is.
    let last : eqb c.args.request.now.code 0x82 ≡ true = eq-eqb _ _ (c.if-request-octet.true ∙ c.octet.ensures) in
    heeds_then (after_headers c.args.progress headers) (λ n. cond (eqb c.args.request.now.code 0x82) (finished n) (opens [] n)) c.in-Open.next _ (g.B.Inbox.content c.on_headers.new.inbox) _ _ (g.B.Inbox.faults c.on_headers.new.inbox) _ _ (g.B.Inbox.shortages c.on_headers.new.inbox) _ c.finish.result
    (headers_store c.args.progress headers)
    (subst (λ (v : Verdict). Heeds (after_headers c.args.progress headers) (g.B.Inbox.content c.args.inbox.now) (g.B.Inbox.content c.on_headers.new.inbox) (g.B.Inbox.faults c.args.inbox.now) (g.B.Inbox.faults c.on_headers.new.inbox)
    (g.B.Inbox.shortages c.args.inbox.now) (g.B.Inbox.shortages c.on_headers.new.inbox) (Ok v)) c.in-Open.is (c.in_ok-verdict.ensures.heeds headers sound is))
    (subst (λ (r : Ruling). Heeds r (g.B.Inbox.content c.on_headers.new.inbox) (g.B.Inbox.content c.finish.new.inbox) (g.B.Inbox.faults c.on_headers.new.inbox) (g.B.Inbox.faults c.finish.new.inbox)
    (g.B.Inbox.shortages c.on_headers.new.inbox) (g.B.Inbox.shortages c.finish.new.inbox) c.finish.result) (sym (cond-true _ (finished c.in-Open.next) (opens [] c.in-Open.next) last)) c.finish.ensures.heeds)
