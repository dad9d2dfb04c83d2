use Rattle.unit_laws.proofs.Taking.{buffers_are_read}
use Rattle.unit_laws.proofs.buffers_are_read.Goals as goal

pub returns : goal.returns
returns g c U = buffers_are_read U
