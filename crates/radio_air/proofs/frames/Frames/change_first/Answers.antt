use Rattle.std.proofs.Common.{◌≤◌, length, sym, ap, ◌∙◌, arith}
use Rattle.radio_air.specs.Rings.{total}
use Rattle.radio_air.proofs.Keeping.{first_within, first_change}
use Rattle.radio_air.proofs.frames.Frames.change_first.Goals as goal

pub change-requires : goal.change-requires
change-requires c =
    let here = c.self.inside in
    let within : total here.lengths.items ≤ length here.octets.items = omega (arith, c.self.invariant.whole_is, c.self.invariant.within) in
    let fits = rw (← c.self.view_is) at c.requires in
    omega (arith, fits, first_within here.lengths.items here.octets.items within)

pub returns : goal.returns
returns c =
    let here = c.self.inside in
    let fits = rw (← c.self.view_is) at c.requires in
    rw (← c.self.view_is)
    (first_change here.whole here.lengths.items here.octets.items c.change.new.ring.items c.args.at c.args.mask c.self.invariant.whole_is fits c.change.ensures.items)
