use Rattle.std.proofs.Common.{◌≡◌, take}
use Rattle.radio_air.specs.Rings.{total}
use Rattle.radio_air.proofs.frames.octets_of.Given as goal

abbrev pub invariant-loop-i : goal.invariant-loop-i
invariant-loop-i l = l.octets ≡ total (take l.i l.fn.lengths.items)
