use Rattle.pair_laws.proofs.PlainPipes.{plain-pairs_are_pipes}
use Rattle.pair_laws.proofs.plain_pairs_are_pipes.Goals as goal

pub returns : goal.returns
returns c = plain-pairs_are_pipes
