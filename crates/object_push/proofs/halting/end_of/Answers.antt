use Rattle.object_push.specs.Halting.{ByFault, ByShortage, ByPlay}
use Rattle.object_push.proofs.halting.end_of.Goals as goal

pub returns-then-failed-clause-halts : goal.returns-then-failed-clause-halts
returns-then-failed-clause-halts c = ByFault c.if-failed.true

pub returns-then-short-clause-halts : goal.returns-then-short-clause-halts
returns-then-short-clause-halts c = ByShortage c.if-failed.false c.if-short.true

pub returns-in-Err-clause-halts : goal.returns-in-Err-clause-halts
returns-in-Err-clause-halts c = ByPlay c.in-Err.fault c.if-failed.false c.if-short.false c.in-Err.is
