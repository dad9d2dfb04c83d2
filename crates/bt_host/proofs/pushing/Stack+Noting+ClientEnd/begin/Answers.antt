use Rattle.std.proofs.Common.{ap, ◌∙◌}
use Rattle.l2cap_channels.specs.Machine.{Machine}
use Rattle.shelf_model.specs.world_model.specs.Machines.{Opening}
use Rattle.shelf_model.specs.host_model.specs.Hosts.{hear}
use Rattle.bt_host.specs.Uppers.{asking}
use Rattle.bt_host.specs.Stacks.{Stacked, standing, goes_out}
use Rattle.bt_host.specs.NotedHosts.{noted_client, client_noting}
use Rattle.bt_host.specs.PushingLaws.{Answers, joins}
use Rattle.bt_host.proofs.Reacting.{reacts_by, resting_by, told_reacts, does_by}
use Rattle.bt_host.proofs.pushing.Stack+Noting+ClientEnd.begin.Goals as goal

pub returns-clause-rests : goal.returns-clause-rests
returns-clause-rests g c =
    resting_by noted_client (client_noting g.F.Shelf.content) c.begin.new.self.machine.settings c.args.self.now.upper.machine.settings (record { stack = c.put_out.new.self; port = c.put_out.new.port })
    (ap (λ (m : Machine). m.settings) c.begin.ensures.machine ∙ ap (λ (n : Stacked _). n.upper.machine.settings) c.self.view_is) c.in_ok-put_out.ensures.rests

pub returns-clause-hears : goal.returns-clause-hears
returns-clause-hears g c =
    let same = ap (λ (n : Stacked _). n.upper.machine.settings) c.self.view_is in
    let answers = Answers g.F.Shelf.content g.F.Shelf.faults g.F.Shelf.shortages in
    told_reacts (noted_client c.args.self.now.upper.machine.settings) answers (joins g.F.Shelf.content g.F.Shelf.faults g.F.Shelf.shortages) (client_noting g.F.Shelf.content) (λ rest host. hear (noted_client c.args.self.now.upper.machine.settings) rest (Opening c.args.name.now) host)
    c.self.inside.link c.self.inside.upper c.begin.new.self c.self.inside.paged c.args.self.now (standing (client_noting g.F.Shelf.content) c.put_out.new.port c.put_out.new.self) c.args.shelf.now c.begin.new.shelf c.put_out.new.port c.self.view_is
    (does_by noted_client answers c.self.inside.upper.machine.settings c.args.self.now.upper.machine.settings (Opening c.args.name.now) (asking (client_noting g.F.Shelf.content) c.args.shelf.now c.self.inside.upper) (asking (client_noting g.F.Shelf.content) c.begin.new.shelf c.begin.new.self) c.args.shelf.now c.begin.new.shelf same c.in_ok-begin.ensures.does)
    (reacts_by noted_client answers goes_out _ _ _ _ c.begin.new.shelf c.put_out.new.port (ap (λ (m : Machine). m.settings) c.begin.ensures.machine ∙ same) c.in_ok-put_out.ensures.goes)
