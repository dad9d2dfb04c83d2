use Rattle.std.proofs.Common.{Ok, eqb, cond, [], ℕ, sym, ◌∙◌, subst}
use Rattle.obex_session.specs.declared.course.Progress.{Progress}
use Rattle.obex_session.specs.declared.course.Verdict.{Verdict}
use Rattle.obex_session.specs.Hearing.{Heeds}
use Rattle.obex_session.specs.Rules.{Ruling, after_headers, then_at, finished, opens, progress_in}
use Rattle.obex_session.proofs.HeedingLaws.{heeds_still}
use Rattle.obex_session.proofs.PacketLaws.{put_minded, put_unminded}
use Rattle.obex_session.proofs.hearing.on_request.Goals as goal

pub returns-then-minds_inbox-clause-heeds : goal.returns-then-minds_inbox-clause-heeds
returns-then-minds_inbox-clause-heeds g c = λ packet sound shows kind.
    let now = c.on_put.ensures.heeds packet.headers sound shows.headers in
    let here = put_minded c.args.course packet c.args.kind c.in-Put.is_final c.in-Put.marks kind c.in-Put.is (sym c.minds_inbox.ensures ∙ c.if-minds_inbox.true) in
    subst (λ (r : Ruling). Heeds r (g.B.Inbox.content c.args.inbox.now) (g.B.Inbox.content c.on_put.new.inbox) (g.B.Inbox.faults c.args.inbox.now) (g.B.Inbox.faults c.on_put.new.inbox) (g.B.Inbox.shortages c.args.inbox.now) (g.B.Inbox.shortages c.on_put.new.inbox) c.on_put.result) (sym here)
    (subst (λ (n : ℕ). Heeds (then_at (after_headers (progress_in c.args.course) packet.headers) (λ next. cond (eqb n 0x82) (finished next) (opens [] next)))
    (g.B.Inbox.content c.args.inbox.now) (g.B.Inbox.content c.on_put.new.inbox) (g.B.Inbox.faults c.args.inbox.now) (g.B.Inbox.faults c.on_put.new.inbox) (g.B.Inbox.shortages c.args.inbox.now) (g.B.Inbox.shortages c.on_put.new.inbox) c.on_put.result) shows.code
    (subst (λ (p : Progress). Heeds (then_at (after_headers p packet.headers) (λ next. cond (eqb c.args.request.now.code 0x82) (finished next) (opens [] next)))
    (g.B.Inbox.content c.args.inbox.now) (g.B.Inbox.content c.on_put.new.inbox) (g.B.Inbox.faults c.args.inbox.now) (g.B.Inbox.faults c.on_put.new.inbox) (g.B.Inbox.shortages c.args.inbox.now) (g.B.Inbox.shortages c.on_put.new.inbox) c.on_put.result) c.progress-then-minds_inbox.ensures now))

pub returns-else-minds_inbox-clause-heeds : goal.returns-else-minds_inbox-clause-heeds
returns-else-minds_inbox-clause-heeds g c = λ packet sound shows kind.
    let here = put_unminded c.args.course packet c.args.kind c.in-Put.is_final c.in-Put.marks kind c.in-Put.is (sym c.minds_inbox.ensures ∙ c.if-minds_inbox.false) in
    subst (λ (r : Ruling). Heeds r (g.B.Inbox.content c.args.inbox.now) (g.B.Inbox.content c.args.inbox.now) (g.B.Inbox.faults c.args.inbox.now) (g.B.Inbox.faults c.args.inbox.now) (g.B.Inbox.shortages c.args.inbox.now) (g.B.Inbox.shortages c.args.inbox.now) (Ok c.nameless_verdict.result)) (sym here)
    (subst (λ (v : Verdict). Heeds (record { calls = []; verdict = v }) (g.B.Inbox.content c.args.inbox.now) (g.B.Inbox.content c.args.inbox.now) (g.B.Inbox.faults c.args.inbox.now) (g.B.Inbox.faults c.args.inbox.now) (g.B.Inbox.shortages c.args.inbox.now) (g.B.Inbox.shortages c.args.inbox.now) (Ok c.nameless_verdict.result)) c.nameless_verdict.ensures
    (heeds_still c.nameless_verdict.result _ _ _))
