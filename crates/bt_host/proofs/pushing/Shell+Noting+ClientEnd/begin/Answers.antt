use Rattle.shelf_model.specs.world_model.specs.Machines.{Opening}
use Rattle.bt_host.specs.PushingLaws.{Answers}
use Rattle.bt_host.specs.NotedHosts.{noted_client, client_noting}
use Rattle.bt_host.proofs.Feeding.{rests_noted}
use Rattle.bt_host.proofs.ToldNews.{told_noted}
use Rattle.bt_host.proofs.pushing.Shell+Noting+ClientEnd.begin.Goals as goal

pub returns-clause-rests : goal.returns-clause-rests
returns-clause-rests g c =
    rests_noted noted_client (client_noting g.F.Shelf.content) c.self.inside.framer c.self.inside.stack c.begin.new.self c.self.inside.refusal c.noted.new.refusal c.args.self.now c.begin.new.shelf c.noted.result c.begin.result
    c.self.view_is c.noted.ensures.answer c.begin.ensures.machine c.begin.ensures.paged c.begin.ensures.rests

pub returns-clause-hears : goal.returns-clause-hears
returns-clause-hears g c =
    told_noted noted_client (Answers g.F.Shelf.content g.F.Shelf.faults g.F.Shelf.shortages) (client_noting g.F.Shelf.content) (Opening c.args.name.now) c.self.inside.framer c.self.inside.framer c.self.inside.stack c.begin.new.self c.self.inside.refusal c.noted.new.refusal c.args.self.now
    c.args.shelf.now c.begin.new.shelf c.noted.result c.begin.result c.self.view_is c.noted.ensures.answer c.begin.ensures.hears
