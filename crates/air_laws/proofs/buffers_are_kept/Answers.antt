use Rattle.air_laws.proofs.Balancing.{buffers_are_kept}
use Rattle.air_laws.proofs.buffers_are_kept.Goals as goal

pub returns : goal.returns
returns g c U V = buffers_are_kept U V
