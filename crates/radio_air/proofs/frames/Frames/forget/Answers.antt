use Rattle.std.proofs.Common.{take, ap, ◌∙◌}
use Rattle.radio_air.specs.Rings.{kept_of}
use Rattle.radio_air.proofs.Keeping.{kept_forgotten}
use Rattle.radio_air.proofs.frames.Frames.forget.Goals as goal

pub returns : goal.returns
returns c =
    let here = c.self.inside in
    rw (← c.self.view_is)
    (ap (λ ring. kept_of here.whole here.lengths.items ring.items) c.truncate_back.ensures ∙ kept_forgotten here.whole here.lengths.items here.octets.items c.self.invariant.whole_is c.self.invariant.within)
