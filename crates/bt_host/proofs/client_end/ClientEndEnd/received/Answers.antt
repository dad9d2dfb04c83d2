use Rattle.std.proofs.Common.{sym, subst}
use Rattle.push_model.specs.Events.{Sdu}
use Rattle.bt_host.specs.Pushing.{Pushes}
use Rattle.bt_host.proofs.Clients.{hears_sound}
use Rattle.bt_host.proofs.client_end.ClientEndEnd.received.Goals as goal

pub returns-clause-sound : goal.returns-clause-sound
returns-clause-sound g c = subst Pushes (sym c.hear_sdu.ensures) (hears_sound c.args.self.now (Sdu c.args.psm c.args.sdu.now) c.requires.sound)
