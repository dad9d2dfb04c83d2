use Rattle.std.proofs.Common.{◌≡◌, ℕ, ◌+◌, List, ◌++◌, length, drop, refl, sym, ap, ◌∙◌, append_assoc, length-append, arith}
use Rattle.ertm_machine.proofs.Parts.{grown}
use Rattle.ertm_machine.proofs.writing.put_parts.Goals as goal

pub returns-clause-written : goal.returns-clause-written
returns-clause-written c =
    let head : List ℕ = c.args.head.now in
    let front : List ℕ = c.args.piece.now.front.now in
    let back : List ℕ = c.args.piece.now.back.now in
    let first : List ℕ = c.args.into.now in
    let two : c.put_at-place-2.new.into ≡ head ++ (front ++ drop c.put_at-place-2.result first) =
    grown head front first c.put_at-place.new.into c.put_at-place-2.new.into c.put_at-place.result c.put_at-place-2.result (omega arith)
    c.put_at-place.ensures.written c.put_at-place-2.ensures.end c.put_at-place-2.ensures.written in
    let three =
    grown (head ++ front) back first c.put_at-place-2.new.into c.put_at.new.into c.put_at-place-2.result c.put_at.result (omega (arith, length-append head front))
    (two ∙ sym (append_assoc head front (drop c.put_at-place-2.result first))) c.put_at.ensures.end c.put_at.ensures.written in
    three ∙ append_assoc head front (back ++ drop c.put_at.result first) ∙ ap (λ (x : List ℕ). head ++ x) (sym (append_assoc front back (drop c.put_at.result first)))
