use Rattle.std.proofs.Common.{ap, is_some}
use Rattle.scenario_play.proofs.Plainness.{orderly}
use Rattle.host_tests.proofs.fronts_tests.play.Goals as goal

pub start-requires-clause-orderly : goal.start-requires-clause-orderly
start-requires-clause-orderly c = orderly

pub start-requires-clause-may : goal.start-requires-clause-may
start-requires-clause-may c = c.in_ok-world.ensures.may_start c.args.shelf.now c.args.inbox.now tt (ap is_some c.requires.none_pending)

pub turn_on-requires-clause-orderly : goal.turn_on-requires-clause-orderly
turn_on-requires-clause-orderly c = orderly

pub turn_on-requires-clause-may : goal.turn_on-requires-clause-may
turn_on-requires-clause-may c = c.in_ok-start.ensures.turned.may
