-- Octets written one piece behind the other.
use Rattle.std.proofs.Common.{◌≡◌, ℕ, ◌+◌, ◌≤◌, List, ◌++◌, length, take, drop, sym, ap, ◌∙◌, append_assoc, arith, length-append}
use Rattle.std.proofs.lemmas.List.{take_at, length-take-le}
use Rattle.std.proofs.lemmas.Slice.{drop-append-drop}

-- the octets are as they were, but for a piece from a place on, up to its end
abbrev pub IsWritten : List ℕ → List ℕ → ℕ → List ℕ → ℕ → Type 0
IsWritten old new at piece end = new ≡ take at old ++ (piece ++ drop end old)

pub piece_then : (a b e : ℕ) (p q old mid new : List ℕ) → a ≤ length old → b ≡ a + length p → e ≡ b + length q
    → IsWritten old mid a p b → IsWritten mid new b q e → IsWritten old new a (p ++ q) e
piece_then a b e p q old mid new within b_is e_is first second =
    let front : length (take a old ++ p) ≡ b = omega (arith, length-append (take a old) p, length-take-le a old within) in
    let group : mid ≡ (take a old ++ p) ++ drop b old = first ∙ sym (append_assoc (take a old) p (drop b old)) in
    let kept : take b mid ≡ take a old ++ p = ap (take b) group ∙ take_at (take a old ++ p) (drop b old) b front in
    let rest : drop e mid ≡ drop e old = ap (drop e) group ∙ drop-append-drop b old (take a old ++ p) e (omega arith) front in
    second
    ∙ ap (λ (x : List ℕ). x ++ (q ++ drop e mid)) kept
    ∙ ap (λ (x : List ℕ). (take a old ++ p) ++ (q ++ x)) rest
    ∙ simp append_assoc
