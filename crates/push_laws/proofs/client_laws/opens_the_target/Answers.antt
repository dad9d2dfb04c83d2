use Rattle.push_laws.proofs.Opening.{opens-the_target}
use Rattle.push_laws.proofs.client_laws.opens_the_target.Goals as goal

pub returns : goal.returns
returns c = opens-the_target
