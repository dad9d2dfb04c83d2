use Rattle.std.proofs.Common.{◌++◌, ◌∙◌, sym, ap}
use Rattle.wire_model.proofs.Carrying.{stands_from}
use Rattle.wire_model.proofs.laws.carried_in_order.Goals as goal

pub returns : goal.returns
returns c number events last r =
    let s = stands_from number events last r in
    (s.picks, (s.left, s.got_is ∙ ap (λ us. us ++ s.left) (sym s.picks)))
