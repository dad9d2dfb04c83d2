use Rattle.push_laws.proofs.Carried.{carried-are_heard, carried-are_taken}
use Rattle.push_laws.proofs.laws.carried_requests_are_heard.Goals as goal

pub returns-clause-granted : goal.returns-clause-granted
returns-clause-granted c = carried-are_heard

pub returns-clause-failing : goal.returns-clause-failing
returns-clause-failing c = carried-are_taken
