use Rattle.std.proofs.Common.{◌≡◌, [], sym, ap, subst, ◌∙◌, true}
use Rattle.std.proofs.lemmas.Result.{on_err_weaker}
use Rattle.push_terms.specs.declared.word.Side.TheVariants.{A, B}
use Rattle.radio_model.specs.Radio.{controller, knows_link, after_acl}
use Rattle.radio_model.specs.Owed.{wants_memory}
use Rattle.radio_air.proofs.Carrying.{carry_wants}
use Rattle.radio_air.proofs.radio.Radio.carry.Goals as goal

pub returns-in-A-clause-memory : goal.returns-in-A-clause-memory
returns-in-A-clause-memory c =
    let here = c.self.inside in
    on_err_weaker c.carry.result
    (λ wants none_a none_b. subst (λ side. wants_memory c.args.self.now (after_acl side c.args.word c.args.octets.now c.args.self.now) ≡ true) (sym c.in-A.is)
    (carry_wants A c.args.word c.args.octets.now c.args.self.now here.a here.ab here.ba c.knows_link-flies.result (sym (ap (λ radio. radio.a) c.self.view_is)) (c.knows_link-flies.ensures ∙ ap (λ side. knows_link side c.args.self.now) c.in-A.is)
    (wants (ap (λ radio. radio.b.coming) c.self.view_is ∙ none_b))))
    c.carry.ensures.memory

pub returns-in-B-clause-memory : goal.returns-in-B-clause-memory
returns-in-B-clause-memory c =
    let here = c.self.inside in
    on_err_weaker c.carry-in-B.result
    (λ wants none_a none_b. subst (λ side. wants_memory c.args.self.now (after_acl side c.args.word c.args.octets.now c.args.self.now) ≡ true) (sym c.in-B.is)
    (carry_wants B c.args.word c.args.octets.now c.args.self.now here.b here.ba here.ab c.knows_link-flies.result (sym (ap (λ radio. radio.b) c.self.view_is)) (c.knows_link-flies.ensures ∙ ap (λ side. knows_link side c.args.self.now) c.in-B.is)
    (wants (ap (λ radio. radio.a.coming) c.self.view_is ∙ none_a))))
    c.carry-in-B.ensures.memory
