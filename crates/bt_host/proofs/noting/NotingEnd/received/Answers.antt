use Rattle.std.proofs.lemmas.Result.{on_ok_weaker}
use Rattle.bt_host.proofs.NotedCalls.{noted_does}
use Rattle.bt_host.proofs.noting.NotingEnd.received.Goals as goal

pub returns-clause-does : goal.returns-clause-does
returns-clause-does g c =
    on_ok_weaker c.received.result
    (λ does settings. noted_does g.E.End.answers g.E.End.pushing (λ rest s. (g.E.End.profile settings).received c.args.own c.args.psm c.args.sdu.now s) c.args.self.now c.self.inside.end c.received.new.self c.self.inside.window c.self.inside.credits c.args.port.now c.received.new.port c.self.view_is (does settings))
    c.received.ensures.does
