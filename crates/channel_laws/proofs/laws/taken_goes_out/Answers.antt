use Rattle.channel_laws.proofs.Taken.{taken-goes_out}
use Rattle.channel_laws.proofs.laws.taken_goes_out.Goals as goal

pub returns : goal.returns
returns c = taken-goes_out
