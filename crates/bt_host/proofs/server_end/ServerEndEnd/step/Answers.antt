use Rattle.std.proofs.Common.{rules, sym}
use Rattle.bt_host.proofs.Servers.{unplaced_does, waits_does, submits_does, lent_works, stepped_works}
use Rattle.bt_host.proofs.server_end.ServerEndEnd.step.Goals as goal

pub returns-in_default-clause-sound : goal.returns-in_default-clause-sound
returns-in_default-clause-sound g c =
    lent_works c.self.inside.server c.next_sdu.new.self c.self.inside.endpoints c.self.inside.breaks c.args.self.now _ c.self.view_is c.next_sdu.ensures.server c.next_sdu.ensures.sessions c.requires.sound

pub returns-in_default-of-clause-sound : goal.returns-in_default-of-clause-sound
returns-in_default-of-clause-sound g c =
    lent_works c.self.inside.server c.next_sdu.new.self c.self.inside.endpoints c.self.inside.breaks c.args.self.now _ c.self.view_is c.next_sdu.ensures.server c.next_sdu.ensures.sessions c.requires.sound

pub returns-in_default-of-clause-does : goal.returns-in_default-of-clause-does
returns-in_default-of-clause-does g c =
    unplaced_does g.B.Inbox.content g.B.Inbox.faults g.B.Inbox.shortages c.self.inside.server c.next_sdu.new.self c.self.inside.endpoints c.self.inside.breaks c.args.self.now c.args.channels.now.channels c.in-Some.psm c.args._port.now
    c.self.view_is c.next_sdu.ensures.server c.in-Some.ensures.psm (search rules)

pub returns-then-not-takes-clause-sound : goal.returns-then-not-takes-clause-sound
returns-then-not-takes-clause-sound g c =
    lent_works c.self.inside.server c.next_sdu.new.self c.self.inside.endpoints c.self.inside.breaks c.args.self.now _ c.self.view_is c.next_sdu.ensures.server c.next_sdu.ensures.sessions c.requires.sound

pub returns-then-not-takes-clause-does : goal.returns-then-not-takes-clause-does
returns-then-not-takes-clause-does g c =
    waits_does g.B.Inbox.content g.B.Inbox.faults g.B.Inbox.shortages c.self.inside.server c.next_sdu.new.self c.self.inside.endpoints c.self.inside.breaks c.takes.result c.args.self.now c.args.channels.now.channels c.in-Some.psm c.in-Some-of.own c.sdu-sdu.result.now c.args._port.now
    c.self.view_is c.next_sdu.ensures.server c.in-Some.ensures.psm c.sdu-sdu.ensures c.are_octets.ensures (search rules) (sym c.takes.ensures) (search rules)

pub returns-clause-does : goal.returns-clause-does
returns-clause-does g c =
    submits_does g.B.Inbox.content g.B.Inbox.faults g.B.Inbox.shortages c.self.inside.server c.next_sdu.new.self c.stepped.new.self c.self.inside.endpoints c.self.inside.breaks c.takes.result c.args.self.now c.args.channels.now c.put_sdu.new.self c.in-Some.psm c.in-Some-of.own c.sdu-sdu.result.now c.args._port.now
    c.self.view_is c.next_sdu.ensures.server c.in-Some.ensures.psm c.sdu-sdu.ensures c.are_octets.ensures (search rules) (sym c.takes.ensures) (search rules) c.put_sdu.ensures c.stepped.ensures.server

pub returns-clause-sound : goal.returns-clause-sound
returns-clause-sound g c =
    stepped_works c.self.inside.server c.next_sdu.new.self c.stepped.new.self c.self.inside.endpoints c.self.inside.breaks c.args.self.now _ c.self.view_is c.next_sdu.ensures.server c.next_sdu.ensures.sessions c.stepped.ensures.server c.stepped.ensures.sessions c.requires.sound
