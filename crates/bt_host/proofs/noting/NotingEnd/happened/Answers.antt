use Rattle.std.proofs.lemmas.Result.{on_ok_weaker}
use Rattle.bt_host.proofs.NotedCalls.{noted_does}
use Rattle.bt_host.proofs.noting.NotingEnd.happened.Goals as goal

pub returns-clause-does : goal.returns-clause-does
returns-clause-does g c =
    on_ok_weaker c.happened.result
    (λ does settings. noted_does g.E.End.answers g.E.End.pushing (λ rest s. (g.E.End.profile settings).happened c.args.event c.args.channels.now.channels s) c.args.self.now c.self.inside.end c.happened.new.self c.self.inside.window c.self.inside.credits c.args.port.now c.happened.new.port c.self.view_is (does settings))
    c.happened.ensures.does
