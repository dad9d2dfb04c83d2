use Rattle.std.proofs.Common.{[], arith}
use Rattle.bt_host.specs.NotedHosts.{server_noting}
use Rattle.receiving.proofs.Serving.{taken_stands}
use Rattle.receiving.proofs.served.ServerHostFedHost.taken.Goals as goal

pub taken-requires : goal.taken-requires
taken-requires g c = omega (arith, c.requires.all [])

pub returns-clause-stands : goal.returns-clause-stands
returns-clause-stands g c = taken_stands (server_noting g.B.Inbox.content) c.args.self.now c.taken.new.self c.args._port.now c.args.n (c.requires.all []) c.taken.ensures
