use Rattle.std.proofs.Common.{sym, subst}
use Rattle.bt_base.specs.declared.settings.Transport.{Transport}
use Rattle.bt_base.specs.declared.settings.Transport.TheVariants.{L2cap, Rfcomm}
use Rattle.obex_session.specs.Counting.{counts_of}
use Rattle.push_model.specs.Sessions.{Sessions}
use Rattle.push_profile.specs.Reactions.{LetsGo}
use Rattle.push_profile.proofs.PartingLaws.{parts}
use Rattle.push_profile.proofs.sessions.Sessions.let_go.Goals as goal

pub returns-in-L2cap-clause-goes : goal.returns-in-L2cap-clause-goes
returns-in-L2cap-clause-goes g c =
    let before : Sessions = record { direct = c.self.inside.direct; carried = c.self.inside.carried } in
    let done = c.link_down in
    subst (λ (t : Transport). LetsGo t c.args.self.now (record { direct = done.new.self; carried = c.self.inside.carried }) (g.B.Inbox.content c.args.inbox.now) (g.B.Inbox.content done.new.inbox) (counts_of g.B.Inbox.faults g.B.Inbox.shortages c.args.inbox.now) (counts_of g.B.Inbox.faults g.B.Inbox.shortages done.new.inbox) done.result)
    (sym c.in-L2cap.is)
    (subst (λ (s : Sessions). LetsGo L2cap s (record { direct = done.new.self; carried = c.self.inside.carried }) (g.B.Inbox.content c.args.inbox.now) (g.B.Inbox.content done.new.inbox) (counts_of g.B.Inbox.faults g.B.Inbox.shortages c.args.inbox.now) (counts_of g.B.Inbox.faults g.B.Inbox.shortages done.new.inbox) done.result)
    c.self.view_is (parts L2cap before done.new.self _ _ _ _ _ _ done.result done.ensures.lets_go done.ensures.unasked done.ensures.counts))

pub returns-in-Rfcomm-clause-goes : goal.returns-in-Rfcomm-clause-goes
returns-in-Rfcomm-clause-goes g c =
    let before : Sessions = record { direct = c.self.inside.direct; carried = c.self.inside.carried } in
    let done = c.link_down-in-Rfcomm in
    subst (λ (t : Transport). LetsGo t c.args.self.now (record { direct = c.self.inside.direct; carried = done.new.self }) (g.B.Inbox.content c.args.inbox.now) (g.B.Inbox.content done.new.inbox) (counts_of g.B.Inbox.faults g.B.Inbox.shortages c.args.inbox.now) (counts_of g.B.Inbox.faults g.B.Inbox.shortages done.new.inbox) done.result)
    (sym c.in-Rfcomm.is)
    (subst (λ (s : Sessions). LetsGo Rfcomm s (record { direct = c.self.inside.direct; carried = done.new.self }) (g.B.Inbox.content c.args.inbox.now) (g.B.Inbox.content done.new.inbox) (counts_of g.B.Inbox.faults g.B.Inbox.shortages c.args.inbox.now) (counts_of g.B.Inbox.faults g.B.Inbox.shortages done.new.inbox) done.result)
    c.self.view_is (parts Rfcomm before done.new.self _ _ _ _ _ _ done.result done.ensures.lets_go done.ensures.unasked done.ensures.counts))
