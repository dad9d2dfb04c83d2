use Rattle.std.proofs.Common.{◌≡◌, None, is_some}
use Rattle.bt_host.specs.Serving.{Works}
use Rattle.host_tests.proofs.bt_host_tests.follows.Given as goal

abbrev pub invariant-loop-row : goal.invariant-loop-row
invariant-loop-row l = (l.host.refusal ≡ None) × Works l.host.stack.upper.end.end (is_some l.inbox.contents.pending)
