use Rattle.std.proofs.Common.{◌+◌, ◌<◌, ◌^◌, ap, sym, ◌∙◌, arith, add-one}
use Rattle.radio_air.proofs.Splitting.{total_more, popped}
use Rattle.radio_air.proofs.frames.take_lengths.Goals as goal

pub overflow_add-octets : goal.overflow_add-octets
overflow_add-octets c =
    let next = popped c.args.lengths.now.items c.loop.lengths.items c.loop.counter c.in-Some.length c.loop.invariant.left (sym c.in-Some.ensures.value) in
    let more = total_more c.args.lengths.now.items c.loop.counter c.in-Some.length _ next in
    omega (arith, more.2, c.loop.invariant.sum, c.requires.fits)

pub loop-preserved : goal.loop-preserved
loop-preserved c =
    let next = popped c.args.lengths.now.items c.loop.lengths.items c.loop.counter c.in-Some.length c.loop.invariant.left (sym c.in-Some.ensures.value) in
    let more = total_more c.args.lengths.now.items c.loop.counter c.in-Some.length _ next in
    rw add-one (record {
      sum = omega (arith, more.0, c.loop.invariant.sum);
      left = ap (λ ring. ring.items) c.pop_front.ensures.items ∙ sym more.1;
      room = ap (λ ring. ring.capacity) c.pop_front.ensures.items ∙ c.loop.invariant.room;
    })
