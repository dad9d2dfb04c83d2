use Rattle.channel_laws.proofs.Bestowing.{endpoints-are_granted_once}
use Rattle.channel_laws.proofs.laws.pipes.endpoints_are_granted_once.Goals as goal

pub returns : goal.returns
returns c = endpoints-are_granted_once
