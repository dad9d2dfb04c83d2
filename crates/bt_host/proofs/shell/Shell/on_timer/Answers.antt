use Rattle.shelf_model.specs.world_model.specs.Machines.{TimerFired}
use Rattle.bt_host.proofs.Feeding.{rests_noted}
use Rattle.bt_host.proofs.ToldNews.{told_noted}
use Rattle.bt_host.proofs.shell.Shell.on_timer.Goals as goal

pub returns-clause-rests : goal.returns-clause-rests
returns-clause-rests g c =
    rests_noted g.E.End.profile g.E.End.pushing c.self.inside.framer c.self.inside.stack c.fire.new.self c.self.inside.refusal c.noted.new.refusal c.args.self.now c.fire.new.port c.noted.result c.fire.result
    c.self.view_is c.noted.ensures.answer c.fire.ensures.machine c.fire.ensures.paged c.fire.ensures.rests

pub returns-clause-hears : goal.returns-clause-hears
returns-clause-hears g c =
    told_noted g.E.End.profile g.E.End.answers g.E.End.pushing TimerFired c.self.inside.framer c.self.inside.framer c.self.inside.stack c.fire.new.self c.self.inside.refusal c.noted.new.refusal c.args.self.now
    c.args.port.now c.fire.new.port c.noted.result c.fire.result c.self.view_is c.noted.ensures.answer c.fire.ensures.hears
