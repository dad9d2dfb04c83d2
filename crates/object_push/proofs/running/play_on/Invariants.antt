use Rattle.watched_ports.specs.Pasts.{no_sink, no_inbox}
use Rattle.object_push.proofs.running.play_on.Given as goal

abbrev pub ghosts-play_stored : goal.ghosts-play_stored
ghosts-play_stored g a = record {
  sink = no_sink;
  shelf = record { name = a.shelf.ghost_name; content = g.F.Shelf.content a.shelf.now; faults = g.F.Shelf.faults a.shelf.now; shortages = g.F.Shelf.shortages a.shelf.now; absences = g.F.Shelf.absences a.shelf.now };
  inbox = no_inbox;
}
