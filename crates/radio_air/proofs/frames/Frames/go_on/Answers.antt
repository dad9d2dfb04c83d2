use Rattle.std.proofs.Common.{◌≤◌, length, sym, ap, ◌∙◌, arith}
use Rattle.radio_air.specs.Rings.{total, kept_of, octets_in}
use Rattle.radio_air.proofs.Faults.{on_err}
use Rattle.radio_air.proofs.Keeping.{kept_on, all_octets}
use Rattle.radio_air.proofs.frames.Frames.go_on.Goals as goal

pub returns-in_err-append-clause-full : goal.returns-in_err-append-clause-full
returns-in_err-append-clause-full c =
    let here = c.self.inside in
    let all = all_octets here.whole here.lengths.items here.octets.items c.self.invariant.whole_is c.self.invariant.within in
    on_err c.from_residual.result (rw (← c.self.view_is) (omega (arith, all, c.self.invariant.octets_reserved, c.in_err-append.ensures.full)))

pub returns-clause-ok : goal.returns-clause-ok
returns-clause-ok c =
    let here = c.self.inside in
    rw (← c.self.view_is)
    (ap (λ octets. kept_of here.whole here.lengths.items octets) c.in_ok-append.ensures.items ∙ kept_on here.whole here.lengths.items here.octets.items c.args.octets.now c.self.invariant.whole_is c.self.invariant.within)
