use Rattle.std.proofs.Common.{sym, subst}
use Rattle.bt_host.specs.Pushing.{Pushes}
use Rattle.bt_host.proofs.Clients.{happened_sound}
use Rattle.bt_host.proofs.client_end.ClientEndEnd.happened.Goals as goal

pub returns-clause-sound : goal.returns-clause-sound
returns-clause-sound g c = subst Pushes (sym c.hear_event.ensures) (happened_sound c.args.event c.args.channels.now.channels c.args.self.now c.requires.sound)
