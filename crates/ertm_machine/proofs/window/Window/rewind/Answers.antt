use Rattle.std.proofs.Common.{◌≡◌, ℕ, List, sym, ap, subst, ◌∙◌}
use Rattle.ertm_machine.proofs.Windowing.{rewinds}
use Rattle.ertm_machine.proofs.Valuing.{spent_is}
use Rattle.ertm_machine.proofs.window.Window.rewind.Goals as goal

pub invariant_of-self : goal.invariant_of-self
invariant_of-self c = rewinds c.self.inside c.self.invariant (sym (spent_is c.self.inside c.args.self.now 0 c.self.view_is) ∙ c.requires)
