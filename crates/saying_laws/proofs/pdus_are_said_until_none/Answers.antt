use Rattle.saying_laws.proofs.Saying.{said_until_none}
use Rattle.saying_laws.proofs.pdus_are_said_until_none.Goals as goal

pub returns : goal.returns
returns g c = said_until_none
