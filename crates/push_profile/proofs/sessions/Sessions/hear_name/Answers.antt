use Rattle.std.proofs.Common.{Result, Ok, Err, ap, ◌∙◌, subst, sym}
use Rattle.bt_base.specs.declared.no_memory.NoMemory.{NoMemory}
use Rattle.bt_base.specs.declared.settings.Transport.{Transport}
use Rattle.obex_session.specs.Counting.{counts_of}
use Rattle.push_model.specs.Sessions.{has_object, session_of}
use Rattle.push_profile.specs.Reactions.{LetsGo}
use Rattle.push_profile.proofs.HearingLaws.{free, named, named_short}
use Rattle.push_profile.proofs.sessions.Sessions.hear_name.Goals as goal

pub answer-requires-clause-single : goal.answer-requires-clause-single
answer-requires-clause-single g c = λ naming. ap (λ (t : Transport). has_object (session_of t c.let_go.new.self)) (sym c.other_of.ensures) ∙ free c.other_of.result _ _ _ _ _ _ _ c.let_go.ensures.goes

pub returns-clause-hears : goal.returns-clause-hears
returns-clause-hears g c =
    let goes = subst (λ (r : Result (Unit {0}) NoMemory). LetsGo c.other_of.result c.args.self.now c.let_go.new.self (g.B.Inbox.content c.args.inbox.now) (g.B.Inbox.content c.let_go.new.inbox) (counts_of g.B.Inbox.faults g.B.Inbox.shortages c.args.inbox.now) (counts_of g.B.Inbox.faults g.B.Inbox.shortages c.let_go.new.inbox) r) c.in-Ok.is c.let_go.ensures.goes in
    let goes_other = subst (λ (t : Transport). LetsGo t c.args.self.now c.let_go.new.self (g.B.Inbox.content c.args.inbox.now) (g.B.Inbox.content c.let_go.new.inbox) (counts_of g.B.Inbox.faults g.B.Inbox.shortages c.args.inbox.now) (counts_of g.B.Inbox.faults g.B.Inbox.shortages c.let_go.new.inbox) (Ok c.in-Ok.field-0)) c.other_of.ensures goes in
    named _ _ _ _ _ _ _ _ _ _ _ _ _ _ _ c.requires.named goes_other c.answer.ensures.answers

pub returns-in_default-clause-hears : goal.returns-in_default-clause-hears
returns-in_default-clause-hears g c =
    let goes = subst (λ (r : Result (Unit {0}) NoMemory). LetsGo c.other_of.result c.args.self.now c.let_go.new.self (g.B.Inbox.content c.args.inbox.now) (g.B.Inbox.content c.let_go.new.inbox) (counts_of g.B.Inbox.faults g.B.Inbox.shortages c.args.inbox.now) (counts_of g.B.Inbox.faults g.B.Inbox.shortages c.let_go.new.inbox) r) c.in_default.is c.let_go.ensures.goes in
    let goes_other = subst (λ (t : Transport). LetsGo t c.args.self.now c.let_go.new.self (g.B.Inbox.content c.args.inbox.now) (g.B.Inbox.content c.let_go.new.inbox) (counts_of g.B.Inbox.faults g.B.Inbox.shortages c.args.inbox.now) (counts_of g.B.Inbox.faults g.B.Inbox.shortages c.let_go.new.inbox) (Err c.in_default.field-0)) c.other_of.ensures goes in
    named_short _ _ _ _ _ _ _ _ _ c.in_default.field-0 _ c.requires.named goes_other
