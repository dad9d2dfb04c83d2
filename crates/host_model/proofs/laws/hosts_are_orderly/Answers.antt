use Rattle.host_model.proofs.Orderly.{hosts_are_orderly}
use Rattle.host_model.proofs.laws.hosts_are_orderly.Goals as goal

pub returns : goal.returns
returns c = hosts_are_orderly
