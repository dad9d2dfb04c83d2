use Rattle.std.proofs.Common.{ℕ, List, true, Result, Err, refl, ap, ◌∙◌, subst, sym}
use Rattle.bt_base.specs.declared.no_memory.NoMemory.{NoMemory}
use Rattle.obex_session.specs.Counting.{counts_of}
use Rattle.push_model.specs.Service.{Service, is_ignored, response_over}
use Rattle.push_profile.specs.Reactions.{HearsPacket, ServiceHears}
use Rattle.push_profile.proofs.ServiceLaws.{hears_from, moved}
use Rattle.push_profile.proofs.service.Service.take.Goals as goal

pub returns-in_default-clause-hears : goal.returns-in_default-clause-hears
returns-in_default-clause-hears g c =
    let before : Service = record { sessions = c.self.inside.sessions; response = c.self.inside.response.items; answer = c.self.inside.answer.items; failed = c.self.inside.failed } in
    let mid = c.hear.new.self in
    let packet = c.args.packet.now in
    let hear = subst (λ (r : Result ℕ NoMemory). HearsPacket c.args.transport c.self.inside.sessions mid packet (g.B.Inbox.content c.args.inbox.now) (g.B.Inbox.content c.hear.new.inbox) (counts_of g.B.Inbox.faults g.B.Inbox.shortages c.args.inbox.now) (counts_of g.B.Inbox.faults g.B.Inbox.shortages c.hear.new.inbox) _ c.hear.new.into r) c.in_default.is c.hear.ensures.hears in
    subst (λ (s : Service). ServiceHears c.args.transport s (moved mid true before) packet (g.B.Inbox.content c.args.inbox.now) (g.B.Inbox.content c.hear.new.inbox) (counts_of g.B.Inbox.faults g.B.Inbox.shortages c.args.inbox.now) (counts_of g.B.Inbox.faults g.B.Inbox.shortages c.hear.new.inbox) (Err (record {}))) c.self.view_is
    (hears_from c.args.transport before mid packet _ _ _ _ _ _ (Err c.in_default.field-0) (Err (record {})) true (moved mid true before)
    (ap (λ (s : Service). s.failed) c.self.view_is ∙ c.requires.works) refl refl
    (ap (λ (s : Service). is_ignored c.args.transport packet s) c.self.view_is ∙ c.requires.heard)
    hear (sym (ap (λ (r : List ℕ). response_over c.args.transport r (moved mid true before)) (hear.none refl))) refl)
