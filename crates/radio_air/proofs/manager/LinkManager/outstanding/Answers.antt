use Rattle.std.proofs.Common.{◌≡◌, ℕ, ◌+◌, true, cond, rules, sym, ap, ◌∙◌}
use Rattle.std.specs.Prelude.{min}
use Rattle.radio_model.specs.Controllers.{Controller}
use Rattle.radio_model.specs.Owed.{outstanding_at, back}
use Rattle.radio_air.proofs.Outstanding.{sum_more, sum_all, read_at}
use Rattle.radio_air.proofs.manager.LinkManager.outstanding.Goals as goal

pub loop-i-preserved : goal.loop-i-preserved
loop-i-preserved c = sum_more c.self.inside.taken c.self.inside.told c.get-told.result c.loop-i.i c.loop-i.count c.from.result c.saturating_add-count.result c.self.inside.answers.items c.in-Some.answer.now
    c.get-told.ensures.value (search rules) (read_at c.self.inside.answers.items c.loop-i.i c.in-Some.answer.now c.in-Some.ensures) c.loop-i.invariant (c.from.ensures ∙ c.given_back.ensures) c.saturating_add-count.ensures

while_up : (one seen : Controller) (count top : ℕ) → one ≡ seen → one.up ≡ true → count ≡ min (one.taken + back one.told one.owed) top → count ≡ min (outstanding_at seen) top
while_up one seen count top same up is = is ∙ sym (ap (λ b. min (cond b (one.taken + back one.told one.owed) 0) top) up) ∙ ap (λ c. min (outstanding_at c) top) same

pub returns : goal.returns
returns c = while_up _ c.args.self.now c.loop-i.count _ c.self.view_is c.if-not-self.false
    (sum_all c.self.inside.taken c.self.inside.told c.loop-i.i c.loop-i.count c.self.inside.answers.items (search rules) c.loop-i.invariant)
