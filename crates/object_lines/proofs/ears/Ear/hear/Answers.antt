use Rattle.std.proofs.Common.{ℕ, ◌+◌, ◌%◌, [], ◌∷◌, refl, ap, ◌∙◌}
use Rattle.object_lines.specs.Ears.{plain_segment, plain_joining}
use Rattle.object_lines.proofs.Earing.{heard_is, ended_is, none_more, stopped_stays, stopped_none, going_on, going_ends}
use Rattle.object_lines.proofs.ears.Ear.hear.Goals as goal

pub returns-in_default-clause-ear : goal.returns-in_default-clause-ear
returns-in_default-clause-ear c =
    let ear = c.args.self.now in
    heard_is c.args.most ear.next ear.next (plain_joining ear) (plain_joining ear) c.args.pdu.now [] c.in_default.ensures (none_more ear.next) refl

pub returns-in_default-clause-sdus : goal.returns-in_default-clause-sdus
returns-in_default-clause-sdus c = ended_is c.args.most c.args.self.now.next (plain_joining c.args.self.now) c.args.pdu.now [] c.in_default.ensures

pub returns-then-self-clause-ear : goal.returns-then-self-clause-ear
returns-then-self-clause-ear c =
    let ear = c.args.self.now in
    heard_is c.args.most ear.next (ear.next % 64 + 1) (plain_joining ear) (plain_joining ear) c.args.pdu.now (plain_segment c.in-Some.segment ∷ []) c.in-Some.ensures refl
    (stopped_stays ear.stopped ear.begun (plain_segment c.in-Some.segment) c.if-self.true)

pub returns-then-self-clause-sdus : goal.returns-then-self-clause-sdus
returns-then-self-clause-sdus c =
    let ear = c.args.self.now in
    stopped_none ear.stopped ear.begun (plain_segment c.in-Some.segment) c.if-self.true
    ∙ ended_is c.args.most ear.next (plain_joining ear) c.args.pdu.now (plain_segment c.in-Some.segment ∷ []) c.in-Some.ensures

pub returns-clause-ear : goal.returns-clause-ear
returns-clause-ear c =
    let ear = c.args.self.now in
    heard_is c.args.most ear.next _ (plain_joining ear) _ c.args.pdu.now (plain_segment c.in-Some.segment ∷ []) c.in-Some.ensures (ap (λ (n : ℕ). n % 64) c.in_ok-sdu.ensures.next)
    (c.in_ok-sdu.ensures.joining ∙ going_on ear.stopped ear.begun (plain_segment c.in-Some.segment) c.if-self.false)

pub returns-clause-sdus : goal.returns-clause-sdus
returns-clause-sdus c =
    let ear = c.args.self.now in
    c.in_ok-sdu.ensures.sdus
    ∙ going_ends ear.stopped ear.begun (plain_segment c.in-Some.segment) c.if-self.false
    ∙ ended_is c.args.most ear.next (plain_joining ear) c.args.pdu.now (plain_segment c.in-Some.segment ∷ []) c.in-Some.ensures
