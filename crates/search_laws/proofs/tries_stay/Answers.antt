use Rattle.search_laws.proofs.Tries.{tries-stay}
use Rattle.search_laws.proofs.tries_stay.Goals as goal

pub returns : goal.returns
returns c = tries-stay
