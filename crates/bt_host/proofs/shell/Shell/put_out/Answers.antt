use Rattle.std.proofs.Common.{sym, subst}
use Rattle.std.specs.Prelude.{OnOk}
use Rattle.bt_host.specs.Shells.{Shelled, settings_of, moment_of}
use Rattle.bt_host.specs.Stacks.{GoesOn}
use Rattle.bt_host.proofs.Feeding.{rests_noted}
use Rattle.bt_host.proofs.shell.Shell.put_out.Goals as goal

pub returns-clause-rests : goal.returns-clause-rests
returns-clause-rests g c =
    rests_noted g.E.End.profile g.E.End.pushing c.self.inside.framer c.self.inside.stack c.put_out.new.self c.self.inside.refusal c.noted.new.refusal c.args.self.now c.put_out.new.port c.noted.result c.put_out.result
    c.self.view_is c.noted.ensures.answer c.put_out.ensures.machine c.put_out.ensures.paged c.put_out.ensures.rests

pub returns-clause-goes : goal.returns-clause-goes
returns-clause-goes g c =
    let after : Shelled _ = record { framing = c.self.inside.framer; stack = c.put_out.new.self; refusal = c.noted.new.refusal } in
    subst (λ (h : Shelled _). OnOk c.noted.result (GoesOn (g.E.End.profile (settings_of h)) g.E.End.answers g.E.End.pushing (moment_of h c.args.port.now) (moment_of after c.put_out.new.port))) c.self.view_is
    (subst (λ r. OnOk r (GoesOn (g.E.End.profile c.self.inside.stack.upper.machine.settings) g.E.End.answers g.E.End.pushing (record { stack = c.self.inside.stack; port = c.args.port.now }) (record { stack = c.put_out.new.self; port = c.put_out.new.port }))) (sym c.noted.ensures.answer) c.put_out.ensures.goes)
