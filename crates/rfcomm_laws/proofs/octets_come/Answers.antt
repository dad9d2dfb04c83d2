use Rattle.rfcomm_laws.proofs.Coming.{octets-come}
use Rattle.rfcomm_laws.proofs.octets_come.Goals as goal

pub returns : goal.returns
returns c = octets-come
