use Rattle.channel_laws.proofs.Assenting.{successes-accept}
use Rattle.channel_laws.proofs.laws.successes_accept.Goals as goal

pub returns : goal.returns
returns c = successes-accept
