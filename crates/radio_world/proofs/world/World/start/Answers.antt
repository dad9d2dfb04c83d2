use Rattle.std.proofs.Common.{sym, subst}
use Rattle.radio_world.specs.Both.{Both}
use Rattle.radio_world.specs.Calls.{AreReached}
use Rattle.radio_world.proofs.world.World.start.Goals as goal

pub start-requires-clause-reached : goal.start-requires-clause-reached
start-requires-clause-reached g c = subst (λ (w : Both g.row.A.Denot g.row.B.Denot). AreReached g.A.Host g.B.Host w c.args.shelf.now c.args.inbox.now) (sym c.self.view_is) c.requires.may.reached
