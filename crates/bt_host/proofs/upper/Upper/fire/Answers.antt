use Rattle.std.proofs.Common.{ap, ◌∙◌}
use Rattle.l2cap_channels.specs.Machine.{Machine}
use Rattle.shelf_model.specs.world_model.specs.Machines.{TimerFired}
use Rattle.bt_host.specs.Uppers.{Upward}
use Rattle.bt_host.proofs.Hearings.{hears_then, firing_heard}
use Rattle.bt_host.proofs.upper.Upper.fire.Goals as goal

pub returns-clause-does : goal.returns-clause-does
returns-clause-does g c =
    hears_then g.E.End.profile g.E.End.is_server g.E.End.answers g.met.E.End.joins g.E.End.pushing g.met.E.End.policy_is g.met.E.End.told_alone g.met.E.End.given_once c.self.inside.channels c.self.inside.end c.self.inside.may_say c.args.self.now (record { machine = c.self-2.inside.channels; end = c.fired.new.self; may_say = c.self-2.inside.may_say }) c.drive.new.self TimerFired c.args.port.now c.tell_events.new.port c.drive.new.port c.self.view_is
    (ap (λ (u : Upward _). u.machine.settings) c.self-2.view_is ∙ ap (λ (m : Machine). m.settings) c.tell_events.ensures.machine ∙ ap (λ (m : Machine). m.settings) c.on_timer.ensures)
    (firing_heard g.E.End.profile g.E.End.is_server g.E.End.answers g.met.E.End.joins g.E.End.pushing g.met.E.End.policy_is g.met.E.End.told_alone g.met.E.End.given_once c.self.inside.channels c.on_timer.new.self c.self-2.inside.channels c.self.inside.end c.self-2.inside.end c.fired.new.self c.self-2.inside.may_say c.tell_events.new.self c.args.port.now c.tell_events.new.port
    (ap (λ (u : Upward _). u.machine.server) c.self.view_is ∙ c.requires.of.party) c.on_timer.ensures c.self-2.view_is c.in_ok-tell_events.ensures.does c.fired.ensures.is)
    c.in_ok-drive.ensures.does
