use Rattle.std.proofs.Common.{◌≡◌}
use Rattle.line_laws.specs.Seeing.{IsSeen}
use Rattle.tiny_hosts.specs.Hosting.{GoesOn, IsStuck}
use Rattle.tiny_hosts.proofs.tiny_host.say_all.Given as goal

abbrev pub invariant-loop-mind : goal.invariant-loop-mind
invariant-loop-mind g l =
    (IsSeen g.M.Mind.side l.fn.mind l.fn.line → GoesOn g.M.Mind.machine g.M.Mind.side l.fn.mind l.mind l.fn.line l.line) × IsStuck l.line

abbrev pub decreases-loop-mind : goal.decreases-loop-mind
decreases-loop-mind g l = g.M.Mind.machine.left l.mind
