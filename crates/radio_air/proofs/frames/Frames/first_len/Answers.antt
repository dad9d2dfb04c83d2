use Rattle.std.proofs.Common.{◌≤◌, length, sym, ap, ◌∙◌, arith}
use Rattle.radio_air.specs.Rings.{total}
use Rattle.radio_air.proofs.Keeping.{first_len, first_none}
use Rattle.radio_air.proofs.frames.Frames.first_len.Goals as goal

pub returns-in-Some : goal.returns-in-Some
returns-in-Some c =
    let here = c.self.inside in
    let within : total here.lengths.items ≤ length here.octets.items = omega (arith, c.self.invariant.whole_is, c.self.invariant.within) in
    rw (← c.self.view_is) (first_len here.lengths.items here.octets.items c.in-Some.length.now within (sym c.in-Some.ensures))

pub returns-in-None : goal.returns-in-None
returns-in-None c = rw (← c.self.view_is) (first_none c.self.inside.lengths.items c.self.inside.octets.items (sym c.in-None.ensures))
