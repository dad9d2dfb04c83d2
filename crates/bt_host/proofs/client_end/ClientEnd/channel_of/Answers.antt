use Rattle.bt_host.proofs.ClientsCalls.{cid_is}
use Rattle.bt_host.proofs.client_end.ClientEnd.channel_of.Goals as goal

pub returns : goal.returns
returns c = cid_is _ c.args.self.now c.args.psm c.get.result c.in-Some.own c.of.result c.of-2.result c.self.view_is c.get.ensures.value c.requires c.of.ensures c.in-Some.is c.of-2.ensures.exactly.1 c.of-2.ensures.value
