use Rattle.l2cap_channels.proofs.Changed.{same_at}
use Rattle.l2cap_channels.proofs.channels.Channels.taken.Goals as goal

pub returns-clause-same : goal.returns-clause-same
returns-clause-same c = same_at c.self.inside c.args.self.now c.args.at c.index.result.now c.self.view_is c.self.invariant c.requires c.index.ensures
