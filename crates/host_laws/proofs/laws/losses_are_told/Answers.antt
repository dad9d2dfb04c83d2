use Rattle.host_laws.proofs.Forgoing.{losses_are_told}
use Rattle.host_laws.proofs.laws.losses_are_told.Goals as goal

pub returns : goal.returns
returns c = losses_are_told
