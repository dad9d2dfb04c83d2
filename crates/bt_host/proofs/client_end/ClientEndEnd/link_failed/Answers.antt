use Rattle.std.proofs.Common.{sym, subst}
use Rattle.shelf_model.specs.world_model.specs.Machines.{Failed}
use Rattle.bt_host.specs.Pushing.{Pushes}
use Rattle.bt_host.proofs.Clients.{told_sound}
use Rattle.bt_host.proofs.client_end.ClientEndEnd.link_failed.Goals as goal

pub returns-clause-sound : goal.returns-clause-sound
returns-clause-sound g c = subst Pushes (sym c.hear_failed.ensures) (told_sound (Failed c.args.status) c.args.self.now tt c.requires.sound)
