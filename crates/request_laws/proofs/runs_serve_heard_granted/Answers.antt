use Rattle.request_laws.proofs.HeardTogether.{runs_serve_heard_granted}
use Rattle.request_laws.proofs.runs_serve_heard_granted.Goals as goal

pub returns : goal.returns
returns c = runs_serve_heard_granted
