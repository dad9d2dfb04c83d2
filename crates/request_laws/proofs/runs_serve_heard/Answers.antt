use Rattle.request_laws.proofs.HeardTogether.{runs_serve_heard}
use Rattle.request_laws.proofs.runs_serve_heard.Goals as goal

pub returns : goal.returns
returns c = runs_serve_heard
