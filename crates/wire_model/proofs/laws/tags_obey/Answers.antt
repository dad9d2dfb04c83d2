use Rattle.wire_model.specs.Pair.{new_pair}
use Rattle.wire_model.proofs.Obeying.{obeys}
use Rattle.wire_model.proofs.laws.tags_obey.Goals as goal

pub returns : goal.returns
returns c number events last r = obeys (new_pair number) last events r
