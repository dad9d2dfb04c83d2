use Rattle.std.proofs.Common.{sym}
use Rattle.bt_host.proofs.Servers.{link_down_does}
use Rattle.bt_host.proofs.server_end.ServerEndEnd.link_down.Goals as goal

pub returns-clause-does : goal.returns-clause-does
returns-clause-does g c =
    link_down_does g.B.Inbox.content g.B.Inbox.faults g.B.Inbox.shortages c.self.inside.server c.link_down.new.self c.self.inside.endpoints c.self.inside.breaks _ c.args.self.now c.unlink.new.self c.args._reason c.args.port.now c.link_down.new.inbox
    c.self.view_is c.unlink.ensures (sym c.in_ok-link_down.ensures.fails) c.link_down.ensures.comes
