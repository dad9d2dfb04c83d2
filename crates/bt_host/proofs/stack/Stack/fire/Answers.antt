use Rattle.std.proofs.Common.{ap, ◌∙◌}
use Rattle.l2cap_channels.specs.Machine.{Machine}
use Rattle.shelf_model.specs.world_model.specs.Machines.{TimerFired}
use Rattle.shelf_model.specs.host_model.specs.Hosts.{hear}
use Rattle.bt_host.specs.Uppers.{asking}
use Rattle.bt_host.specs.Stacks.{Stacked, goes_out}
use Rattle.bt_host.proofs.Calling.{on_err_anyhow}
use Rattle.bt_host.proofs.Reacting.{reacts_by, resting_by, told_reacts, does_by}
use Rattle.bt_host.proofs.stack.Stack.fire.Goals as goal

pub returns-in_err-put_out-clause-lacked : goal.returns-in_err-put_out-clause-lacked
returns-in_err-put_out-clause-lacked g c = on_err_anyhow _ (g.met.E.End.lacks c.args.port.now c.fire.new.port c.put_out.new.port _ c.in_ok-fire.ensures.does.answered c.in_err-put_out.ensures.lacked)

pub returns-clause-rests : goal.returns-clause-rests
returns-clause-rests g c =
    resting_by g.E.End.profile g.E.End.pushing c.fire.new.self.machine.settings c.args.self.now.upper.machine.settings (record { stack = c.put_out.new.self; port = c.put_out.new.port }) (ap (λ (m : Machine). m.settings) c.fire.ensures.machine ∙ ap (λ (n : Stacked _). n.upper.machine.settings) c.self.view_is) c.in_ok-put_out.ensures.rests

pub returns-clause-hears : goal.returns-clause-hears
returns-clause-hears g c =
    let same = ap (λ (n : Stacked _). n.upper.machine.settings) c.self.view_is in
    told_reacts (g.E.End.profile c.args.self.now.upper.machine.settings) g.E.End.answers g.met.E.End.joins g.E.End.pushing (λ rest host. hear (g.E.End.profile c.args.self.now.upper.machine.settings) rest TimerFired host)
    c.self.inside.link c.self.inside.upper c.fire.new.self c.self.inside.paged c.args.self.now _ c.args.port.now c.fire.new.port c.put_out.new.port c.self.view_is
    (does_by g.E.End.profile g.E.End.answers c.self.inside.upper.machine.settings c.args.self.now.upper.machine.settings TimerFired (asking g.E.End.pushing c.args.port.now c.self.inside.upper) _ c.args.port.now c.fire.new.port same c.in_ok-fire.ensures.does)
    (reacts_by g.E.End.profile g.E.End.answers goes_out _ _ _ _ c.fire.new.port c.put_out.new.port (ap (λ (m : Machine). m.settings) c.fire.ensures.machine ∙ same) c.in_ok-put_out.ensures.goes)
