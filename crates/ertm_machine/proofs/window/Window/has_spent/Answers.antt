use Rattle.std.proofs.Common.{◌≡◌, ℕ, drop, sym, ap, ◌∙◌}
use Rattle.std.specs.Prelude.{nat_le}
use Rattle.std.specs.List.{list_any}
use Rattle.ertm_machine.proofs.Valuing.{spent_is}
use Rattle.ertm_machine.proofs.window.Window.has_spent.Goals as goal

pub returns : goal.returns
returns c =
    let found : c.has_spent.result ≡ list_any (λ head. nat_le c.self.inside.agreed.tries head.given) (drop c.from.result c.self.inside.heads.items) = c.has_spent.ensures in
    found ∙ ap (λ (n : ℕ). list_any (λ head. nat_le c.self.inside.agreed.tries head.given) (drop n c.self.inside.heads.items)) c.from.ensures
    ∙ sym (spent_is c.self.inside c.args.self.now c.args.from c.self.view_is)
