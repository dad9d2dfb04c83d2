use Rattle.std.proofs.Common.{◌≡◌, ◌≤◌, ◌+◌, ◌-◌, ◌++◌, ◌∷◌, [], length, sym, ap, ap₂, ◌∙◌, arith}
use Rattle.radio_air.specs.Rings.{total, kept_of}
use Rattle.radio_air.proofs.Faults.{on_err}
use Rattle.radio_air.proofs.Splitting.{length-split, total_append}
use Rattle.radio_air.proofs.Keeping.{kept_completed, keep_fits}
use Rattle.radio_air.proofs.frames.Frames.complete.Goals as goal

pub returns-in_err-make_room-clause-full : goal.returns-in_err-make_room-clause-full
returns-in_err-make_room-clause-full c =
    let here = c.self.inside in
    on_err c.from_residual.result (rw (← c.self.view_is) (omega (arith, length-split here.lengths.items here.octets.items, c.self.invariant.lengths_reserved, c.in_err-make_room.ensures.full)))

pub invariant_of-self-2 : goal.invariant_of-self-2
invariant_of-self-2 c =
    let here = c.self.inside in
    let old = c.self.invariant in
    let all : c.make_room.new.ring.items ++ (c.len.result - here.whole) ∷ [] ≡ here.lengths.items ++ (c.len.result - here.whole) ∷ [] = ap (λ xs. xs ++ (c.len.result - here.whole) ∷ []) c.in_ok-make_room.ensures.items in
    let room : length c.make_room.new.ring.items + 1 ≤ c.make_room.new.ring.capacity = omega (arith, ap length c.in_ok-make_room.ensures.items, c.in_ok-make_room.ensures.room) in
    let kept = ap (λ ring. ring.items) c.push_back-none_leaves.ensures.items ∙ keep_fits c.make_room.new.ring.capacity c.make_room.new.ring.items (c.len.result - here.whole) room ∙ all in
    let capacity = ap (λ ring. ring.capacity) c.push_back-none_leaves.ensures.items in
    record {
      whole_is = omega (arith, c.len-self-inside.ensures.len, c.len.ensures.len, ap total kept, total_append here.lengths.items (c.len.result - here.whole), old.whole_is, old.within);
      within = omega (arith, c.len-self-inside.ensures.len);
      lengths_reserved = omega (arith, capacity, c.in_ok-make_room.ensures.grown, old.lengths_reserved);
      octets_reserved = old.octets_reserved;
    }

pub returns-clause-ok : goal.returns-clause-ok
returns-clause-ok c =
    let here = c.self.inside in
    let old = c.self.invariant in
    let all : c.make_room.new.ring.items ++ (c.len.result - here.whole) ∷ [] ≡ here.lengths.items ++ (c.len.result - here.whole) ∷ [] = ap (λ xs. xs ++ (c.len.result - here.whole) ∷ []) c.in_ok-make_room.ensures.items in
    let room : length c.make_room.new.ring.items + 1 ≤ c.make_room.new.ring.capacity = omega (arith, ap length c.in_ok-make_room.ensures.items, c.in_ok-make_room.ensures.room) in
    let kept = ap (λ ring. ring.items) c.push_back-none_leaves.ensures.items ∙ keep_fits c.make_room.new.ring.capacity c.make_room.new.ring.items (c.len.result - here.whole) room ∙ all in
    rw (← c.self.view_is)
    (ap₂ (λ whole lengths. kept_of whole lengths here.octets.items) c.len-self-inside.ensures.len kept
    ∙ ap (λ n. kept_of (length here.octets.items) (here.lengths.items ++ (n - here.whole) ∷ []) here.octets.items) c.len.ensures.len
    ∙ kept_completed here.whole here.lengths.items here.octets.items old.whole_is old.within)
