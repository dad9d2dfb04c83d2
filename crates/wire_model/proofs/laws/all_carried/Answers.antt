use Rattle.std.proofs.Common.{◌∙◌}
use Rattle.wire_model.proofs.Carrying.{stands_from, all_got}
use Rattle.wire_model.proofs.laws.all_carried.Goals as goal

pub returns : goal.returns
returns c number events last r none =
    let s = stands_from number events last r in
    s.picks ∙ all_got last.first last.second _ _ _ s none
