use Rattle.std.proofs.Common.{◌≤◌, length, sym, ap, ◌∙◌, arith}
use Rattle.byteorder.specs.Endian.{little_number}
use Rattle.radio_air.specs.Rings.{total}
use Rattle.radio_air.proofs.Keeping.{first_within, number_in_first}
use Rattle.radio_air.proofs.frames.Frames.first_number.Goals as goal

pub number_at-requires : goal.number_at-requires
number_at-requires c =
    let here = c.self.inside in
    let within : total here.lengths.items ≤ length here.octets.items = omega (arith, c.self.invariant.whole_is, c.self.invariant.within) in
    let fits = rw (← c.self.view_is) at c.requires in
    omega (arith, fits, first_within here.lengths.items here.octets.items within)

pub returns : goal.returns
returns c =
    let here = c.self.inside in
    let fits = rw (← c.self.view_is) at c.requires in
    rw (← c.self.view_is) (c.number_at.ensures ∙ number_in_first here.lengths.items here.octets.items c.args.at fits)
