use Rattle.std.proofs.Common.{sym, subst}
use Rattle.shelf_model.specs.world_model.specs.Machines.{Linked, Up}
use Rattle.bt_host.specs.Pushing.{Pushes}
use Rattle.bt_host.proofs.Clients.{told_sound}
use Rattle.bt_host.proofs.client_end.ClientEndEnd.link_up.Goals as goal

pub returns-clause-sound : goal.returns-clause-sound
returns-clause-sound g c = subst Pushes (sym c.hear_up.ensures) (told_sound (Linked Up) c.args.self.now tt c.requires.sound)
