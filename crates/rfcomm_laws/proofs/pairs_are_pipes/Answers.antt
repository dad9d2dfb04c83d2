use Rattle.rfcomm_laws.proofs.Stages.{pairs-are_pipes}
use Rattle.rfcomm_laws.proofs.pairs_are_pipes.Goals as goal

pub returns : goal.returns
returns c = pairs-are_pipes
