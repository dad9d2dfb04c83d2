use Rattle.std.proofs.lemmas.Result.{on_ok_weaker}
use Rattle.shelf_model.specs.world_model.specs.Machines.{Opening}
use Rattle.bt_host.specs.Shelving.{shelf_profile, shelved_by}
use Rattle.bt_host.specs.PushingLaws.{Answers}
use Rattle.bt_host.proofs.NotedCalls.{noted_does}
use Rattle.bt_host.proofs.pushing.Noting+ClientEnd.begin.Goals as goal

pub returns-clause-does : goal.returns-clause-does
returns-clause-does g c =
    on_ok_weaker c.begin.result
    (λ does settings. noted_does (Answers g.F.Shelf.content g.F.Shelf.faults g.F.Shelf.shortages) (shelved_by g.F.Shelf.content) (λ rest s. (shelf_profile settings).told rest (Opening c.args.name.now) s) c.args.self.now c.self.inside.end c.begin.new.self c.self.inside.window c.self.inside.credits
    c.args.shelf.now c.begin.new.shelf c.self.view_is does)
    c.begin.ensures.does
