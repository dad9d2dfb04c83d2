use Rattle.std.proofs.Common.{arith}
use Rattle.ertm_machine.proofs.Valuing.{used_is}
use Rattle.ertm_machine.proofs.window.Window.next.Goals as goal

pub returns-clause-within : goal.returns-clause-within
returns-clause-within c = omega (arith, used_is c.self.inside c.args.self.now c.self.view_is, c.self.invariant.next)
