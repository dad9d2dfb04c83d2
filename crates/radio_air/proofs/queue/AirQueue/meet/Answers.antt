use Rattle.std.proofs.Common.{◌≡◌, ◌*◌, ◌<◌, length, min, sym, ap, subst, ◌∙◌, arith}
use Rattle.radio_model.specs.declared.fate.Fate.TheVariants.{CutOff}
use Rattle.radio_model.specs.Queues.{meeting}
use Rattle.radio_air.proofs.Meeting.{met_cut}
use Rattle.radio_air.proofs.queue.AirQueue.meet.Goals as goal

pub returns-in-CutOff : goal.returns-in-CutOff
returns-in-CutOff c =
    let here = c.self.inside in
    let size = ap (λ q. q.size) c.self.view_is in
    let most = c.min.ensures ∙ ap (λ n. min c.first_len-octets.result n) (ap (λ n. n * c.from-in-CutOff.result) c.from.ensures ∙ ap (λ n. c.in-CutOff.pieces * n) (c.from-in-CutOff.ensures ∙ size)) in
    c.begin-in-CutOff.ensures
    ∙ met_cut c.args.checked c.in-CutOff.pieces c.min.result c.first_len-octets.result c.args.self.now (omega (arith, c.self.invariant.sized.0, size)) c.requires.still (omega (arith, c.len.ensures, c.if-len-eq0.false)) c.first_len-octets.ensures most
    ∙ ap (λ fate. meeting fate c.args.checked c.args.self.now) (sym c.in-CutOff.is)
