use Rattle.watched_ports.specs.Pasts.{no_sink, no_shelf}
use Rattle.object_push.proofs.running.play_stored.Given as goal

abbrev pub ghosts-play_traced : goal.ghosts-play_traced
ghosts-play_traced g a = record {
  sink = no_sink;
  shelf = no_shelf;
  inbox = record { name = a.inbox.ghost_name; content = g.B.Inbox.content a.inbox.now; faults = g.B.Inbox.faults a.inbox.now; shortages = g.B.Inbox.shortages a.inbox.now };
}
