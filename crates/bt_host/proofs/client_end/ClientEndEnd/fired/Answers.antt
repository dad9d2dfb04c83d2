use Rattle.std.proofs.Common.{sym, subst}
use Rattle.shelf_model.specs.world_model.specs.Machines.{TimerFired}
use Rattle.bt_host.specs.Pushing.{Pushes}
use Rattle.bt_host.proofs.Clients.{told_sound}
use Rattle.bt_host.proofs.client_end.ClientEndEnd.fired.Goals as goal

pub returns-clause-sound : goal.returns-clause-sound
returns-clause-sound g c = subst Pushes (sym c.hear_timer.ensures) (told_sound TimerFired c.args.self.now tt c.requires.sound)
