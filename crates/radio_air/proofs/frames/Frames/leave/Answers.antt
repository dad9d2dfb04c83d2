use Rattle.std.proofs.Common.{◌≡◌, ◌≤◌, ◌-◌, length, drop, take, sym, ap, ap₂, ◌∙◌, arith, length-drop}
use Rattle.circular_buffer.specs.Buffer.{keep_last}
use Rattle.radio_air.specs.Rings.{total, kept_of}
use Rattle.radio_air.proofs.Splitting.{length-split, total_split}
use Rattle.radio_air.proofs.Keeping.{kept_left, keep_behind}
use Rattle.radio_air.proofs.frames.Frames.leave.Goals as goal

pub take_lengths-gone-requires-clause-enough : goal.take_lengths-gone-requires-clause-enough
take_lengths-gone-requires-clause-enough c =
    let here = c.self.inside in
    let enough = rw (← c.self.view_is) at c.requires in
    omega (arith, enough, length-split here.lengths.items here.octets.items)

pub overflow_sub-octets : goal.overflow_sub-octets
overflow_sub-octets c =
    let here = c.self.inside in
    omega (arith, c.take_lengths-gone.ensures.sum, total_split c.args.count here.lengths.items, c.self.invariant.whole_is, c.self.invariant.within)

pub overflow_sub-self : goal.overflow_sub-self
overflow_sub-self c =
    let here = c.self.inside in
    omega (arith, c.take_lengths-gone.ensures.sum, total_split c.args.count here.lengths.items, c.self.invariant.whole_is)

pub invariant_of-self : goal.invariant_of-self
invariant_of-self c =
    let here = c.self.inside in
    let old = c.self.invariant in
    let parts = total_split c.args.count here.lengths.items in
    let left = c.take_lengths-gone.ensures.left in
    let sum = c.take_lengths-gone.ensures.sum in
    let within : c.take_lengths-gone.result ≤ length here.octets.items = omega (arith, parts, sum, old.whole_is, old.within) in
    let rest = ap (λ ring. ring.items) c.truncate_front.ensures ∙ ap (λ n. keep_last (n - c.take_lengths-gone.result) here.octets.items) c.len-octets.ensures.len ∙ keep_behind c.take_lengths-gone.result here.octets.items within in
    record {
      whole_is = omega (arith, ap total left, parts, sum, old.whole_is);
      within = omega (arith, ap length rest, length-drop c.take_lengths-gone.result here.octets.items, old.within);
      lengths_reserved = omega (arith, c.take_lengths-gone.ensures.room, old.lengths_reserved);
      octets_reserved = omega (arith, ap (λ ring. ring.capacity) c.truncate_front.ensures, old.octets_reserved);
    }

pub returns : goal.returns
returns c =
    let here = c.self.inside in
    let old = c.self.invariant in
    let parts = total_split c.args.count here.lengths.items in
    let sum = c.take_lengths-gone.ensures.sum in
    let within : c.take_lengths-gone.result ≤ length here.octets.items = omega (arith, parts, sum, old.whole_is, old.within) in
    let rest = ap (λ ring. ring.items) c.truncate_front.ensures ∙ ap (λ n. keep_last (n - c.take_lengths-gone.result) here.octets.items) c.len-octets.ensures.len ∙ keep_behind c.take_lengths-gone.result here.octets.items within in
    rw (← c.self.view_is)
    (ap₂ (λ lengths octets. kept_of (here.whole - c.take_lengths-gone.result) lengths octets) c.take_lengths-gone.ensures.left rest
    ∙ kept_left here.whole c.args.count c.take_lengths-gone.result here.lengths.items here.octets.items sum (omega (arith, parts, sum, old.whole_is)))
