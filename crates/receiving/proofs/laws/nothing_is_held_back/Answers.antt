use Rattle.receiving.proofs.HeardStreams.{nothing_is_held_back}
use Rattle.receiving.proofs.laws.nothing_is_held_back.Goals as goal

pub returns : goal.returns
returns g c = nothing_is_held_back
