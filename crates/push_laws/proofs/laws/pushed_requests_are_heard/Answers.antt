use Rattle.push_laws.proofs.Pushed.{pushed-are_heard, pushed-are_taken}
use Rattle.push_laws.proofs.laws.pushed_requests_are_heard.Goals as goal

pub returns-clause-granted : goal.returns-clause-granted
returns-clause-granted c = pushed-are_heard

pub returns-clause-failing : goal.returns-clause-failing
returns-clause-failing c = pushed-are_taken
