use Rattle.std.proofs.Common.{◌≡◌, ℕ, ◌-◌, ◌≤◌, length, take, drop, sym, ap, subst, ◌∙◌, arith}
use Rattle.ertm_machine.specs.Windows.{size_of}
use Rattle.ertm_machine.proofs.Windowing.{acknowledges, few_in_front}
use Rattle.ertm_machine.proofs.Valuing.{used_is, acknowledged}
use Rattle.ertm_machine.proofs.window.Window.acknowledge.Goals as goal

pub forget-size-requires-clause-within : goal.forget-size-requires-clause-within
forget-size-requires-clause-within c = omega (arith, used_is c.self.inside c.args.self.now c.self.view_is)

pub forget-size-requires-clause-fits : goal.forget-size-requires-clause-fits
forget-size-requires-clause-fits c = omega (arith, few_in_front c.self.inside c.from-count.result c.self.invariant)

pub invariant_of-self : goal.invariant_of-self
invariant_of-self c =
    acknowledges c.self.inside c.from-count.result c.forget-size.result c.drop_octets.new.ring c.forget-size.new.heads c.saturating_sub-self-inside.result c.saturating_sub-self-inside-2.result
    c.self.invariant (omega (arith, used_is c.self.inside c.args.self.now c.self.view_is)) c.forget-size.ensures.size c.drop_octets.ensures c.forget-size.ensures.heads c.saturating_sub-self-inside.ensures c.saturating_sub-self-inside-2.ensures

pub returns : goal.returns
returns c =
    let done =
    acknowledged c.self.inside c.args.self.now c.from-count.result c.forget-size.result c.drop_octets.new.ring c.forget-size.new.heads c.saturating_sub-self-inside.result c.saturating_sub-self-inside-2.result
    c.self.view_is c.forget-size.ensures.size c.drop_octets.ensures c.forget-size.ensures.heads c.saturating_sub-self-inside.ensures in
    rw c.from-count.ensures at done
