use Rattle.host_laws.proofs.Arming.{armed-is_read}
use Rattle.host_laws.proofs.laws.armed_is_read.Goals as goal

pub returns : goal.returns
returns g c A = armed-is_read A
