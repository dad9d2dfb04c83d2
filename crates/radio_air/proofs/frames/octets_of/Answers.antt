use Rattle.std.proofs.Common.{◌+◌, sym, arith, add-one}
use Rattle.radio_air.proofs.Splitting.{total_at}
use Rattle.radio_air.proofs.frames.octets_of.Goals as goal

pub overflow_add-octets : goal.overflow_add-octets
overflow_add-octets c =
    let more = total_at c.args.lengths.now.items c.loop-i.i c.in-Some.length.now (sym c.in-Some.ensures) in
    omega (arith, more.1, c.loop-i.invariant, c.requires.fits)

pub loop-i-preserved : goal.loop-i-preserved
loop-i-preserved c =
    let more = total_at c.args.lengths.now.items c.loop-i.i c.in-Some.length.now (sym c.in-Some.ensures) in
    rw add-one (omega (arith, more.0, c.loop-i.invariant))
