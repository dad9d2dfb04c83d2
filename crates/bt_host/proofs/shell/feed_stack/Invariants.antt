use Rattle.std.proofs.Common.{◌≡◌, length}
use Rattle.bt_host.specs.Uppers.{IsOf}
use Rattle.bt_host.specs.Stacks.{IsResting}
use Rattle.bt_host.proofs.Feeding.{HasServed}
use Rattle.bt_host.proofs.shell.feed_stack.Given as goal

abbrev pub invariant-loop-unit : goal.invariant-loop-unit
invariant-loop-unit g l = record {
  served : HasServed (g.E.End.profile l.initial.stack.upper.machine.settings) g.E.End.answers g.E.End.pushing l.initial.framer l.framer l.piece l.rest (record { stack = l.initial.stack; port = l.initial.port }) (record { stack = l.stack; port = l.port });
  sound : g.E.End.is_sound l.stack.upper.end l.port;
  of : IsOf g.E.End.is_server l.stack.upper;
  rests : IsResting (g.E.End.profile l.initial.stack.upper.machine.settings) g.E.End.pushing (record { stack = l.stack; port = l.port });
  paged : l.stack.paged ≡ l.initial.stack.paged;
  same : l.stack.upper.machine.settings ≡ l.initial.stack.upper.machine.settings;
}

abbrev pub decreases-loop-unit : goal.decreases-loop-unit
decreases-loop-unit g l = length l.rest
