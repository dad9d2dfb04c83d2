use Rattle.watched_ports.specs.Pasts.{no_shelf, no_inbox}
use Rattle.object_push.proofs.running.play_traced.Given as goal

abbrev pub ghosts-play_watched : goal.ghosts-play_watched
ghosts-play_watched g a = record {
  sink = record { name = a.trace.ghost_name; faults = g.T.Sink.faults a.trace.now; shortages = g.T.Sink.shortages a.trace.now };
  shelf = no_shelf;
  inbox = no_inbox;
}
