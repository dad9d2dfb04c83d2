use Rattle.std.proofs.Common.{rules, ap}
use Rattle.bt_host.specs.Stacks.{Stacked, standing, leaves}
use Rattle.bt_host.proofs.Stepping.{may_not_end, piece_waits, more_to_say, link_is_kept}
use Rattle.bt_host.proofs.Reacting.{reacts_none, left_reacts, reacts_by}
use Rattle.bt_host.proofs.stack.Stack.leave.Goals as goal

pub returns-clause-goes : goal.returns-clause-goes
returns-clause-goes g c =
    reacts_by g.E.End.profile g.E.End.answers leaves c.self.inside.upper.machine.settings c.args.self.now.upper.machine.settings _ _ c.args.port.now c.args.port.now (ap (λ (n : Stacked _). n.upper.machine.settings) c.self.view_is)
    (left_reacts (g.E.End.profile c.self.inside.upper.machine.settings) g.E.End.answers g.met.E.End.joins g.E.End.pushing c.self.inside.link c.disconnect.new.self c.self.inside.upper c.self.inside.paged c.args.self.now c.args.port.now c.self.view_is
    (search rules) (search rules) (search rules) (λ rest. search rules) c.disconnect.ensures.line)

pub returns-then-not-may_end-clause-goes : goal.returns-then-not-may_end-clause-goes
returns-then-not-may_end-clause-goes g c =
    reacts_none (g.E.End.profile c.args.self.now.upper.machine.settings) g.E.End.answers g.met.E.End.joins leaves (standing g.E.End.pushing c.args.port.now c.args.self.now) c.args.port.now (λ rest. may_not_end (g.E.End.profile c.args.self.now.upper.machine.settings) (standing g.E.End.pushing c.args.port.now c.args.self.now rest) (search rules))

pub returns-then-waits-clause-goes : goal.returns-then-waits-clause-goes
returns-then-waits-clause-goes g c =
    reacts_none (g.E.End.profile c.args.self.now.upper.machine.settings) g.E.End.answers g.met.E.End.joins leaves (standing g.E.End.pushing c.args.port.now c.args.self.now) c.args.port.now (λ rest. piece_waits (g.E.End.profile c.args.self.now.upper.machine.settings) (standing g.E.End.pushing c.args.port.now c.args.self.now rest) (search rules))

pub returns-then-says-clause-goes : goal.returns-then-says-clause-goes
returns-then-says-clause-goes g c =
    reacts_none (g.E.End.profile c.args.self.now.upper.machine.settings) g.E.End.answers g.met.E.End.joins leaves (standing g.E.End.pushing c.args.port.now c.args.self.now) c.args.port.now (λ rest. more_to_say (g.E.End.profile c.args.self.now.upper.machine.settings) (standing g.E.End.pushing c.args.port.now c.args.self.now rest) (search rules))

pub returns-then-not-leaves_link-clause-goes : goal.returns-then-not-leaves_link-clause-goes
returns-then-not-leaves_link-clause-goes g c =
    reacts_none (g.E.End.profile c.args.self.now.upper.machine.settings) g.E.End.answers g.met.E.End.joins leaves (standing g.E.End.pushing c.args.port.now c.args.self.now) c.args.port.now (λ rest. link_is_kept (g.E.End.profile c.args.self.now.upper.machine.settings) (standing g.E.End.pushing c.args.port.now c.args.self.now rest) (search rules))
