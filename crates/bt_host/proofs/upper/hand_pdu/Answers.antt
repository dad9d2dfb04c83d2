use Rattle.std.proofs.lemmas.Result.{on_ok_weaker}
use Rattle.bt_host.proofs.Telling.{handed_up}
use Rattle.bt_host.proofs.upper.hand_pdu.Goals as goal

pub returns-in-Received-clause-does : goal.returns-in-Received-clause-does
returns-in-Received-clause-does g c =
    on_ok_weaker c.received.result
    (λ does. handed_up (g.E.End.profile c.args.channels.now.settings) g.E.End.answers c.on_pdu.result c.in-Received.cid c.in-Received.psm c.in-Received.sdu _ _ _ _ _ c.in-Received.is c.on_pdu.follows.holds-at-none.up (does c.args.channels.now.settings))
    c.received.ensures.does
