use Rattle.receiving.proofs.Counting.{not_write}
use Rattle.receiving.proofs.listening.past_limit.Goals as goal

pub returns-in-Err-clause-no_write : goal.returns-in-Err-clause-no_write
returns-in-Err-clause-no_write g c = not_write c.in-Err.fault c.in-Err.ensures.of_source
