use Rattle.request_laws.proofs.AlongStreams.{multiplexers_are_piped}
use Rattle.request_laws.proofs.multiplexers_are_piped.Goals as goal

pub returns : goal.returns
returns c = multiplexers_are_piped
