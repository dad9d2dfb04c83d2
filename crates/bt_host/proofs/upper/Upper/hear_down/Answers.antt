use Rattle.std.proofs.Common.{ap, ◌∙◌}
use Rattle.l2cap_channels.specs.Machine.{Machine}
use Rattle.shelf_model.specs.world_model.specs.Machines.{Linked, Down}
use Rattle.bt_host.specs.Uppers.{Upward}
use Rattle.bt_host.proofs.Calling.{on_err_anyhow}
use Rattle.bt_host.proofs.Hearings.{hears_then, down_heard}
use Rattle.bt_host.proofs.upper.Upper.hear_down.Goals as goal

pub returns-in_err-drive-clause-lacked : goal.returns-in_err-drive-clause-lacked
returns-in_err-drive-clause-lacked g c =
    on_err_anyhow _ (g.met.E.End.lacks c.args.port.now c.tell_events.new.port c.drive.new.port _ c.in_ok-tell_events.ensures.does.answered
    (g.met.E.End.lacks c.tell_events.new.port c.link_down-2.new.port c.drive.new.port _ (c.in_ok-link_down.ensures.does c.args.self.now.machine.settings).answered c.in_err-drive.ensures.lacked))

pub returns-clause-does : goal.returns-clause-does
returns-clause-does g c =
    hears_then g.E.End.profile g.E.End.is_server g.E.End.answers g.met.E.End.joins g.E.End.pushing g.met.E.End.policy_is g.met.E.End.told_alone g.met.E.End.given_once c.self.inside.channels c.self.inside.end c.self.inside.may_say c.args.self.now (record { machine = c.self-2.inside.channels; end = c.link_down-2.new.self; may_say = c.self-2.inside.may_say }) c.drive.new.self (Linked (Down c.args.reason)) c.args.port.now c.link_down-2.new.port c.drive.new.port c.self.view_is
    (ap (λ (u : Upward _). u.machine.settings) c.self-2.view_is ∙ ap (λ (m : Machine). m.settings) c.tell_events.ensures.machine ∙ ap (λ (m : Machine). m.settings) c.link_down.ensures)
    (down_heard g.E.End.profile g.E.End.is_server g.E.End.answers g.met.E.End.joins g.E.End.pushing g.met.E.End.policy_is g.met.E.End.told_alone g.met.E.End.given_once c.self.inside.channels c.link_down.new.self c.self-2.inside.channels c.self.inside.end c.self-2.inside.end c.link_down-2.new.self c.self-2.inside.may_say c.tell_events.new.self c.args.reason c.args.port.now c.tell_events.new.port c.link_down-2.new.port
    c.link_down.ensures c.self-2.view_is c.in_ok-tell_events.ensures.does c.in_ok-link_down.ensures.does)
    c.in_ok-drive.ensures.does
