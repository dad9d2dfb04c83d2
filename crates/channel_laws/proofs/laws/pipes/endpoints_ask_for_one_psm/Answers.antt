use Rattle.channel_laws.proofs.Bestowing.{endpoints-ask_for_one_psm}
use Rattle.channel_laws.proofs.laws.pipes.endpoints_ask_for_one_psm.Goals as goal

pub returns : goal.returns
returns c = endpoints-ask_for_one_psm
