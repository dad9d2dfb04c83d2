use Rattle.std.proofs.Common.{rules}
use Rattle.bt_host.proofs.Calling.{on_ok_works}
use Rattle.bt_host.proofs.Servers.{received_does, passed_does}
use Rattle.bt_host.proofs.server_end.ServerEndEnd.received.Goals as goal

pub returns-in_default-clause-does : goal.returns-in_default-clause-does
returns-in_default-clause-does g c =
    passed_does g.B.Inbox.content g.B.Inbox.faults g.B.Inbox.shortages c.self.inside.server c.self.inside.endpoints c.put.new.self c.self.inside.breaks c.args.self.now c.args.own c.args.psm c.args.sdu.now c.args.port.now c.self.view_is c.put.ensures
    (λ is. search rules)

pub returns-clause-does : goal.returns-clause-does
returns-clause-does g c =
    on_ok_works c.on_sdu.result _ c.on_sdu.ensures.fails
    (λ works. received_does g.B.Inbox.content g.B.Inbox.faults g.B.Inbox.shortages c.self.inside.server c.on_sdu.new.self c.self.inside.endpoints c.put.new.self c.self.inside.breaks _ c.args.self.now c.args.own c.in-Some.psm c.args.psm c.args.sdu.now
    c.args.port.now c.on_sdu.new.inbox c.self.view_is c.put.ensures c.in-Some.ensures.value works c.on_sdu.ensures.comes)
