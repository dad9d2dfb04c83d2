use Rattle.std.proofs.Common.{ap, ◌∙◌}
use Rattle.l2cap_channels.specs.Machine.{Machine}
use Rattle.shelf_model.specs.world_model.specs.Machines.{Heard}
use Rattle.bt_host.specs.Uppers.{Upward}
use Rattle.bt_host.proofs.Hearings.{hears_then, pdu_heard}
use Rattle.bt_host.proofs.upper.Upper.hear_pdu.Goals as goal

pub returns-clause-does : goal.returns-clause-does
returns-clause-does g c =
    hears_then g.E.End.profile g.E.End.is_server g.E.End.answers g.met.E.End.joins g.E.End.pushing g.met.E.End.policy_is g.met.E.End.told_alone g.met.E.End.given_once c.self.inside.channels c.self.inside.end c.self.inside.may_say c.args.self.now c.tell_events.new.self c.drive.new.self (Heard c.args.pdu.now) c.args.port.now c.tell_events.new.port c.drive.new.port c.self.view_is
    (ap (λ (m : Machine). m.settings) c.tell_events.ensures.machine ∙ ap (λ (m : Machine). m.settings) c.hand_pdu.ensures.channels)
    (pdu_heard g.E.End.profile g.E.End.is_server g.E.End.answers g.met.E.End.joins g.E.End.pushing g.met.E.End.policy_is g.met.E.End.told_alone g.met.E.End.given_once c.self.inside.channels c.hand_pdu.new.channels c.self.inside.end c.hand_pdu.new.end c.tell_events.new.self c.args.cid c.args.pdu.now c.args.port.now c.hand_pdu.new.port c.tell_events.new.port
    (ap (λ (u : Upward _). u.machine.server) c.self.view_is ∙ c.requires.of.party) c.requires.channel c.hand_pdu.ensures.channels c.in_ok-hand_pdu.ensures.does c.in_ok-tell_events.ensures.does)
    c.in_ok-drive.ensures.does
