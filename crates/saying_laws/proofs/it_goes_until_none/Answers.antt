use Rattle.saying_laws.proofs.Saying.{goes_until_none}
use Rattle.saying_laws.proofs.it_goes_until_none.Goals as goal

pub returns : goal.returns
returns g c = goes_until_none
