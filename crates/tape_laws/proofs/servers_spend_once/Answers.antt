use Rattle.tape_laws.proofs.Once.{servers_spend_once}
use Rattle.tape_laws.proofs.servers_spend_once.Goals as goal

pub returns : goal.returns
returns c = servers_spend_once
