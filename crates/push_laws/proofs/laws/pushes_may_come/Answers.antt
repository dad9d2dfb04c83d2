use Rattle.push_laws.proofs.Muxed.{pushes-may_come, pushes-may_fail}
use Rattle.push_laws.proofs.laws.pushes_may_come.Goals as goal

pub returns-clause-granted : goal.returns-clause-granted
returns-clause-granted c = pushes-may_come

pub returns-clause-failing : goal.returns-clause-failing
returns-clause-failing c = pushes-may_fail
