use Rattle.std.proofs.Common.{◌≡◌, true, false, ap, ◌∙◌, sym, subst}
use Rattle.bt_base.specs.declared.settings.Transport.{Transport}
use Rattle.bt_base.specs.declared.settings.Transport.TheVariants.{L2cap, Rfcomm}
use Rattle.obex_session.specs.Counting.{counts_of}
use Rattle.push_model.specs.Sessions.{Sessions, session_of, other_of, is_naming, has_object, is_pending}
use Rattle.push_profile.specs.Reactions.{AnswersTo}
use Rattle.push_profile.proofs.HearingLaws.{answers, after_of, and_swap, or_swap}
use Rattle.push_profile.proofs.sessions.Sessions.answer.Goals as goal

pub returns-in-L2cap-clause-answers : goal.returns-in-L2cap-clause-answers
returns-in-L2cap-clause-answers g c =
    let before : Sessions = record { direct = c.self.inside.direct; carried = c.self.inside.carried } in
    let done = c.on_packet in
    let count = c.count_of in
    subst (λ (t : Transport). AnswersTo t c.args.self.now (record { direct = done.new.self; carried = c.self.inside.carried }) c.args.packet.now (g.B.Inbox.content c.args.inbox.now) (g.B.Inbox.content done.new.inbox) (counts_of g.B.Inbox.faults g.B.Inbox.shortages c.args.inbox.now) (counts_of g.B.Inbox.faults g.B.Inbox.shortages done.new.inbox) c.args.into.now done.new.into count.result) (sym c.in-L2cap.is)
    (subst (λ (s : Sessions). AnswersTo L2cap s (record { direct = done.new.self; carried = c.self.inside.carried }) c.args.packet.now (g.B.Inbox.content c.args.inbox.now) (g.B.Inbox.content done.new.inbox) (counts_of g.B.Inbox.faults g.B.Inbox.shortages c.args.inbox.now) (counts_of g.B.Inbox.faults g.B.Inbox.shortages done.new.inbox) c.args.into.now done.new.into count.result) c.self.view_is
    (answers L2cap before done.new.self c.args.packet.now _ _ _ _ _ _ done.result count.result done.ensures.hears count.ensures.count count.ensures.lacks))

pub returns-in-Rfcomm-clause-answers : goal.returns-in-Rfcomm-clause-answers
returns-in-Rfcomm-clause-answers g c =
    let before : Sessions = record { direct = c.self.inside.direct; carried = c.self.inside.carried } in
    let done = c.on_packet-in-Rfcomm in
    let count = c.count_of-in-Rfcomm in
    subst (λ (t : Transport). AnswersTo t c.args.self.now (record { direct = c.self.inside.direct; carried = done.new.self }) c.args.packet.now (g.B.Inbox.content c.args.inbox.now) (g.B.Inbox.content done.new.inbox) (counts_of g.B.Inbox.faults g.B.Inbox.shortages c.args.inbox.now) (counts_of g.B.Inbox.faults g.B.Inbox.shortages done.new.inbox) c.args.into.now done.new.into count.result) (sym c.in-Rfcomm.is)
    (subst (λ (s : Sessions). AnswersTo Rfcomm s (record { direct = c.self.inside.direct; carried = done.new.self }) c.args.packet.now (g.B.Inbox.content c.args.inbox.now) (g.B.Inbox.content done.new.inbox) (counts_of g.B.Inbox.faults g.B.Inbox.shortages c.args.inbox.now) (counts_of g.B.Inbox.faults g.B.Inbox.shortages done.new.inbox) c.args.into.now done.new.into count.result) c.self.view_is
    (answers Rfcomm before done.new.self c.args.packet.now _ _ _ _ _ _ done.result count.result done.ensures.hears count.ensures.count count.ensures.lacks))

pub returns-in-L2cap-clause-pending : goal.returns-in-L2cap-clause-pending
returns-in-L2cap-clause-pending g c =
    let before : Sessions = record { direct = c.self.inside.direct; carried = c.self.inside.carried } in
    let packet = c.args.packet.now in
    let done = c.on_packet in
    let single = subst (λ (s : Sessions). is_naming L2cap packet s ≡ true → has_object (session_of Rfcomm s) ≡ false) (sym c.self.view_is)
    (subst (λ (t : Transport). is_naming t packet c.args.self.now ≡ true → has_object (session_of (other_of t) c.args.self.now) ≡ false) c.in-L2cap.is c.requires.single) in
    after_of (has_object before.direct) (is_naming L2cap packet before) (has_object before.carried) (has_object done.new.self) (g.B.Inbox.is_pending c.args.inbox.now) (g.B.Inbox.is_pending done.new.inbox)
    c.self.invariant single (c.requires.pending ∙ ap is_pending (sym c.self.view_is)) done.ensures.pending done.ensures.unasked done.ensures.none

pub returns-in-Rfcomm-clause-pending : goal.returns-in-Rfcomm-clause-pending
returns-in-Rfcomm-clause-pending g c =
    let before : Sessions = record { direct = c.self.inside.direct; carried = c.self.inside.carried } in
    let packet = c.args.packet.now in
    let done = c.on_packet-in-Rfcomm in
    let single = subst (λ (s : Sessions). is_naming Rfcomm packet s ≡ true → has_object (session_of L2cap s) ≡ false) (sym c.self.view_is)
    (subst (λ (t : Transport). is_naming t packet c.args.self.now ≡ true → has_object (session_of (other_of t) c.args.self.now) ≡ false) c.in-Rfcomm.is c.requires.single) in
    after_of (has_object before.carried) (is_naming Rfcomm packet before) (has_object before.direct) (has_object done.new.self) (g.B.Inbox.is_pending c.args.inbox.now) (g.B.Inbox.is_pending done.new.inbox)
    (and_swap (has_object before.carried) (has_object before.direct) ∙ c.self.invariant) single (c.requires.pending ∙ ap is_pending (sym c.self.view_is) ∙ or_swap (has_object before.direct) (has_object before.carried)) done.ensures.pending done.ensures.unasked done.ensures.none
    ∙ or_swap (has_object done.new.self) (has_object before.direct)
