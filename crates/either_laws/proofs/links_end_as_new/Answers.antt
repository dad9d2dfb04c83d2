use Rattle.either_laws.proofs.Ending.{links_end_as_new}
use Rattle.either_laws.proofs.links_end_as_new.Goals as goal

pub returns : goal.returns
returns c = links_end_as_new
