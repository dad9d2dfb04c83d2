use Rattle.tape_laws.proofs.Hearing.{taped_runs_are_runs}
use Rattle.tape_laws.proofs.taped_runs_are_runs.Goals as goal

pub returns : goal.returns
returns t c U A tape = taped_runs_are_runs U A tape
