use Rattle.std.proofs.Common.{sym, ◌∙◌}
use Rattle.ertm_machine.proofs.Valuing.{used_is}
use Rattle.ertm_machine.proofs.window.Window.used.Goals as goal

pub returns-clause-used : goal.returns-clause-used
returns-clause-used c = c.len.ensures.len ∙ sym (used_is c.self.inside c.args.self.now c.self.view_is)
