use Rattle.std.proofs.Common.{arith}
use Rattle.wire_model.proofs.Carrying.{stands_from}
use Rattle.wire_model.proofs.laws.within_window.Goals as goal

pub returns : goal.returns
returns c number events last r =
    let s = stands_from number events last r in
    (omega (arith, s.sending.held, s.sending.window, s.sending.own), s.none)
