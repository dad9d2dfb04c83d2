use Rattle.host_laws.proofs.ReadSo.{said-is_read}
use Rattle.host_laws.proofs.laws.said_is_read.Goals as goal

pub returns : goal.returns
returns c = said-is_read
