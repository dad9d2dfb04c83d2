use Rattle.std.proofs.Common.{◌≤◌, length, sym, ◌∙◌, arith}
use Rattle.radio_air.specs.Rings.{total}
use Rattle.radio_air.proofs.Keeping.{first_within, first_part}
use Rattle.radio_air.proofs.frames.Frames.copy_first.Goals as goal

pub copy_from-requires : goal.copy_from-requires
copy_from-requires c =
    let here = c.self.inside in
    let within : total here.lengths.items ≤ length here.octets.items = omega (arith, c.self.invariant.whole_is, c.self.invariant.within) in
    let fits = rw (← c.self.view_is) at c.requires in
    omega (arith, fits, first_within here.lengths.items here.octets.items within)

pub returns : goal.returns
returns c =
    let here = c.self.inside in
    let fits = rw (← c.self.view_is) at c.requires in
    rw (← c.self.view_is) (c.copy_from.ensures ∙ first_part here.lengths.items here.octets.items c.args.from (length c.args.into.now) fits)
