use Rattle.std.proofs.Common.{[]}
use Rattle.std.proofs.lemmas.Result.{on_ok_weaker}
use Rattle.shelf_model.specs.world_model.specs.Machines.{Linked, Down}
use Rattle.bt_host.proofs.NotedCalls.{noted_does}
use Rattle.bt_host.proofs.noting.NotingEnd.link_down.Goals as goal

pub returns-clause-does : goal.returns-clause-does
returns-clause-does g c =
    on_ok_weaker c.link_down.result
    (λ does settings. noted_does g.E.End.answers g.E.End.pushing (λ rest s. (g.E.End.profile settings).told [] (Linked (Down c.args.reason)) s) c.args.self.now c.self.inside.end c.link_down.new.self c.self.inside.window c.self.inside.credits c.args.port.now c.link_down.new.port c.self.view_is (does settings))
    c.link_down.ensures.does
