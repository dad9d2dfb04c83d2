use Rattle.credit_laws.proofs.Serving.{servers-are_covered}
use Rattle.credit_laws.proofs.servers_are_covered.Goals as goal

pub returns : goal.returns
returns c = servers-are_covered
