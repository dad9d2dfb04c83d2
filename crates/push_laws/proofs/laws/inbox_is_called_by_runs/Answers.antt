use Rattle.push_laws.proofs.Calling.{inbox-is_called_by_runs}
use Rattle.push_laws.proofs.laws.inbox_is_called_by_runs.Goals as goal

pub returns : goal.returns
returns c = inbox-is_called_by_runs
