use Rattle.std.proofs.Common.{rules, ap}
use Rattle.bt_host.specs.Stacks.{Stacked, standing, pages}
use Rattle.bt_host.proofs.Stepping.{link_is_up, link_is_asked, none_is_wanted}
use Rattle.bt_host.proofs.Reacting.{reacts_none, paged_reacts, reacts_by}
use Rattle.bt_host.proofs.stack.Stack.page.Goals as goal

pub returns-clause-goes : goal.returns-clause-goes
returns-clause-goes g c =
    reacts_by g.E.End.profile g.E.End.answers pages c.self.inside.upper.machine.settings c.args.self.now.upper.machine.settings _ _ c.args.port.now c.args.port.now (ap (λ (n : Stacked _). n.upper.machine.settings) c.self.view_is)
    (paged_reacts (g.E.End.profile c.self.inside.upper.machine.settings) g.E.End.answers g.met.E.End.joins g.E.End.pushing c.self.inside.link c.connect.new.self c.self.inside.upper c.self.inside.paged c.args.self.now c.args.port.now c.self.view_is
    (search rules) (search rules) (λ rest. search rules) c.connect.ensures.line)

pub returns-then-is_some-clause-goes : goal.returns-then-is_some-clause-goes
returns-then-is_some-clause-goes g c =
    reacts_none (g.E.End.profile c.args.self.now.upper.machine.settings) g.E.End.answers g.met.E.End.joins pages (standing g.E.End.pushing c.args.port.now c.args.self.now) c.args.port.now (λ rest. link_is_up (g.E.End.profile c.args.self.now.upper.machine.settings) (standing g.E.End.pushing c.args.port.now c.args.self.now rest) (search rules))

pub returns-then-is_asking-clause-goes : goal.returns-then-is_asking-clause-goes
returns-then-is_asking-clause-goes g c =
    reacts_none (g.E.End.profile c.args.self.now.upper.machine.settings) g.E.End.answers g.met.E.End.joins pages (standing g.E.End.pushing c.args.port.now c.args.self.now) c.args.port.now (λ rest. link_is_asked (g.E.End.profile c.args.self.now.upper.machine.settings) (standing g.E.End.pushing c.args.port.now c.args.self.now rest) (search rules))

pub returns-then-not-wants_link-clause-goes : goal.returns-then-not-wants_link-clause-goes
returns-then-not-wants_link-clause-goes g c =
    reacts_none (g.E.End.profile c.args.self.now.upper.machine.settings) g.E.End.answers g.met.E.End.joins pages (standing g.E.End.pushing c.args.port.now c.args.self.now) c.args.port.now (λ rest. none_is_wanted (g.E.End.profile c.args.self.now.upper.machine.settings) (standing g.E.End.pushing c.args.port.now c.args.self.now rest) (search rules))
