use Rattle.std.proofs.Common.{sym, ap, ◌∙◌, inl, inr}
use Rattle.ertm_machine.proofs.Valuing.{some_waits, waits_is}
use Rattle.ertm_machine.proofs.window.Window.is_waiting.Goals as goal

pub returns-in-Uncut : goal.returns-in-Uncut
returns-in-Uncut c =
    elim c.in-Uncut.is [
      | inl uncut ↦ sym (waits_is c.self.inside c.args.self.now c.self.view_is ∙ ap some_waits uncut)
      | inr begun ↦ sym (waits_is c.self.inside c.args.self.now c.self.view_is ∙ ap some_waits begun)
    ]
