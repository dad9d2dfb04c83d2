use Rattle.push_script.proofs.FewWords.{has_few_runs}
use Rattle.push_script.proofs.laws.runs_are_few.Goals as goal

pub returns : goal.returns
returns c = has_few_runs
