use Rattle.std.proofs.Common.{sym, subst}
use Rattle.shelf_model.specs.world_model.specs.Machines.{Cancelled}
use Rattle.bt_host.specs.Pushing.{Pushes}
use Rattle.bt_host.proofs.Clients.{told_sound}
use Rattle.bt_host.proofs.ClientsCalls.{cancel_is}
use Rattle.bt_host.proofs.client_end.ClientEnd.cancel.Goals as goal

pub returns-clause-is : goal.returns-clause-is
returns-clause-is c = cancel_is _ c.args.self.now c.cancel.new.self c.end.new.self c.self.view_is c.cancel.ensures c.end.ensures

pub returns-clause-sound : goal.returns-clause-sound
returns-clause-sound c =
    subst Pushes (sym (cancel_is _ c.args.self.now c.cancel.new.self c.end.new.self c.self.view_is c.cancel.ensures c.end.ensures)) (told_sound Cancelled c.args.self.now tt c.requires.sound)
