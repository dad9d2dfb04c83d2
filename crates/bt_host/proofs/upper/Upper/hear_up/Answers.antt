use Rattle.std.proofs.Common.{ap}
use Rattle.l2cap_channels.specs.Machine.{Machine}
use Rattle.shelf_model.specs.world_model.specs.Machines.{Linked, Up}
use Rattle.bt_host.proofs.Hearings.{hears_then, up_heard}
use Rattle.bt_host.proofs.upper.Upper.hear_up.Goals as goal

pub returns-clause-does : goal.returns-clause-does
returns-clause-does g c =
    hears_then g.E.End.profile g.E.End.is_server g.E.End.answers g.met.E.End.joins g.E.End.pushing g.met.E.End.policy_is g.met.E.End.told_alone g.met.E.End.given_once c.self.inside.channels c.self.inside.end c.self.inside.may_say c.args.self.now (record { machine = c.link_up.new.self; end = c.link_up-2.new.self; may_say = 4294967296 }) c.drive.new.self (Linked Up) c.args.port.now c.args.port.now c.drive.new.port c.self.view_is
    (ap (λ (m : Machine). m.settings) c.link_up.ensures)
    (up_heard g.E.End.profile g.E.End.is_server g.E.End.answers g.met.E.End.joins g.E.End.pushing g.met.E.End.policy_is g.met.E.End.told_alone g.met.E.End.given_once c.self.inside.channels c.link_up.new.self c.self.inside.end c.link_up-2.new.self c.args.port.now c.link_up.ensures c.link_up-2.ensures.is)
    c.in_ok-drive.ensures.does
