use Rattle.unit_laws.proofs.Running.{lines_are_read}
use Rattle.unit_laws.proofs.lines_are_read.Goals as goal

pub returns : goal.returns
returns g c U = lines_are_read U
