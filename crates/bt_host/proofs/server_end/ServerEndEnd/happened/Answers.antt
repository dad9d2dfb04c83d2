use Rattle.std.proofs.Common.{sym, ◌∙◌}
use Rattle.bt_host.proofs.Calling.{on_ok_works}
use Rattle.bt_host.proofs.Servers.{closed_does}
use Rattle.bt_host.proofs.server_end.ServerEndEnd.happened.Goals as goal

pub returns-in-Closed-clause-does : goal.returns-in-Closed-clause-does
returns-in-Closed-clause-does g c =
    on_ok_works c.channel_down.result _ c.channel_down.ensures.fails
    (λ works. closed_does g.B.Inbox.content g.B.Inbox.faults g.B.Inbox.shortages c.self.inside.server c.channel_down.new.self c.self.inside.endpoints c.self.inside.breaks _ c.args.self.now c.args.event c.in-Closed.field-0 c.in-Closed.psm c.in-Closed.reason c.args._channels.now.channels
    c.args.port.now c.channel_down.new.inbox c.self.view_is c.in-Closed.is (sym c.is_told.ensures ∙ c.if-is_told.true) works c.channel_down.ensures.comes)
