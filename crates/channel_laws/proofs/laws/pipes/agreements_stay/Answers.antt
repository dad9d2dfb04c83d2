use Rattle.channel_laws.proofs.Binding.{agreements-stay}
use Rattle.channel_laws.proofs.laws.pipes.agreements_stay.Goals as goal

pub returns : goal.returns
returns c = agreements-stay
