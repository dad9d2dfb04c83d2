use Rattle.request_laws.proofs.MuxHeard.{carried_requests_are_heard}
use Rattle.request_laws.proofs.carried_requests_are_heard.Goals as goal

pub returns : goal.returns
returns c = carried_requests_are_heard
