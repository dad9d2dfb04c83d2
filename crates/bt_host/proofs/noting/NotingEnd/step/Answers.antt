use Rattle.bt_host.proofs.NotedCalls.{by_ok, noted_steps}
use Rattle.bt_host.proofs.noting.NotingEnd.step.Goals as goal

pub returns-clause-does : goal.returns-clause-does
returns-clause-does g c =
    by_ok c.step.result c.step.ensures.does
    (λ more does settings. noted_steps g.E.End.answers g.E.End.pushing (λ s. (g.E.End.profile settings).steps c.args.channels.now.channels s) c.args.self.now c.self.inside.end c.step.new.self c.self.inside.window c.self.inside.credits
    c.step.new.channels.channels more c.args.port.now c.step.new.port c.self.view_is (does settings))
