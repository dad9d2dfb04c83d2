use Rattle.std.proofs.Common.{sym, subst}
use Rattle.shelf_model.specs.world_model.specs.Machines.{Linked, Down}
use Rattle.bt_host.specs.Pushing.{Pushes}
use Rattle.bt_host.proofs.Clients.{told_sound}
use Rattle.bt_host.proofs.client_end.ClientEndEnd.link_down.Goals as goal

pub returns-clause-sound : goal.returns-clause-sound
returns-clause-sound g c = subst Pushes (sym c.hear_down.ensures) (told_sound (Linked (Down c.args.reason)) c.args.self.now tt c.requires.sound)
