use Rattle.std.proofs.Common.{ap, subst}
use Rattle.obex_session.specs.declared.course.Course.{Course}
use Rattle.obex_session.specs.Past.{Serving}
use Rattle.obex_session.specs.Serving.{Hears}
use Rattle.obex_session.proofs.TurnLaws.{hears}
use Rattle.obex_session.proofs.server.ServerSession.on_packet.Goals as goal

pub returns-clause-hears : goal.returns-clause-hears
returns-clause-hears g c =
    let before : Serving = record { maximum = c.self.inside.maximum; offered = c.self.inside.offered; course = c.self.inside.course } in
    let after : Serving = record { maximum = c.self.inside.maximum; offered = c.self.inside.offered; course = c.after-self-inside.result } in
    subst (λ (s : Serving). Hears s after c.args.packet.now (g.B.Inbox.content c.args.inbox.now) (g.B.Inbox.content c.hear-heard.new.inbox) (g.B.Inbox.faults c.args.inbox.now) (g.B.Inbox.faults c.hear-heard.new.inbox)
    (g.B.Inbox.shortages c.args.inbox.now) (g.B.Inbox.shortages c.hear-heard.new.inbox) c.args.into.now c.say.new.into c.say.result) c.self.view_is
    (hears c.hear-heard.result.outcome before after c.args.packet.now c.hear-heard.result.kind c.said_after-saying.result _ _ _ _ _ _ _ _ _ (record {
      kind_is = c.hear-heard.ensures.kind;
      heeds = c.hear-heard.ensures.heeds;
      session_is = ap (λ (x : Course). record before { course = x }) c.after-self-inside.ensures;
      saying_is = c.said_after-saying.ensures;
      says = c.say.ensures;
    }))
