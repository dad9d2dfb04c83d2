use Rattle.radio_world.specs.Calls.{MayTurn}
use Rattle.host_tests.proofs.fronts_tests.turn_on.Given as goal

abbrev pub invariant-loop : goal.invariant-loop
invariant-loop g l = MayTurn g.A.Host g.B.Host l.world l.shelf l.inbox
