use Rattle.identifier_laws.proofs.Hosts.{granters-never_fall}
use Rattle.identifier_laws.proofs.granters_never_fall.Goals as goal

pub returns : goal.returns
returns c = granters-never_fall
