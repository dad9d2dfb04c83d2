-- Octets written one part after the other.
use Rattle.std.proofs.Common.{◌≡◌, ℕ, ◌+◌, List, [], ◌∷◌, ◌++◌, length, take, drop, refl, sym, ap, ◌∙◌, append_assoc, length-append, arith}
use Rattle.std.proofs.lemmas.List.{take_at, drop-drop}
use Rattle.std.proofs.Math.Seq.{drop-append-add}
use Rattle.hci_packets.specs.Units.{Writes}

pub writes_more : (origin old new front octets : List ℕ) (at end : ℕ) → Writes origin old at front → end ≡ at + length octets
    → new ≡ take at old ++ (octets ++ drop (at + length octets) old) → Writes origin new end (front ++ octets)
writes_more origin old new front octets at end so_far end-is new-is =
    let n : at ≡ length front = so_far.0 in
    let kept : take at old ≡ front = ap (take at) so_far.1 ∙ take_at front (drop (length front) origin) at (sym n) in
    let after : drop (at + length octets) old ≡ drop (length front + length octets) origin =
    ap (λ (k : ℕ). drop (k + length octets) old) n
    ∙ ap (drop (length front + length octets)) so_far.1
    ∙ drop-append-add front (drop (length front) origin) (length octets)
    ∙ drop-drop (length octets) (length front) origin in
    let count : end ≡ length (front ++ octets) = omega (arith, length-append front octets) in
    let whole : new ≡ front ++ (octets ++ drop (length front + length octets) origin) = rw (new-is, kept, after) refl in
    (count, whole ∙ sym (append_assoc front octets (drop (length front + length octets) origin)) ∙ ap (λ (k : ℕ). (front ++ octets) ++ drop k origin) (sym (length-append front octets)))

pub four_parts : (head : List ℕ) (count : ℕ) (first rest : List ℕ) → ((head ++ count ∷ []) ++ first) ++ rest ≡ head ++ (count ∷ (first ++ rest))
four_parts head count first rest = simp append_assoc
