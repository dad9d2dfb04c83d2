use Rattle.wire_model.proofs.Carrying.{stands_from, never}
use Rattle.wire_model.proofs.laws.never_reset.Goals as goal

pub returns : goal.returns
returns c number events last r = never last.first last.second _ _ _ (stands_from number events last r)
