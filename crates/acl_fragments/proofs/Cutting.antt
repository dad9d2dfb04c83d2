-- A cutter gives its pieces one after the other.
use Rattle.std.proofs.Common.{◌≡◌, ℕ, zero, suc, ◌≤◌, ◌<◌, min, List, [], ◌∷◌, length, take, drop, refl, sym, ap, ◌∙◌, length-drop, arith}
use Rattle.std.proofs.lemmas.List.{take_all, drop_all}
use Rattle.std.proofs.lemmas.Bool.{cases_lt}
use Rattle.std.proofs.Common.{inl, inr}
use Rattle.hci_packets.specs.declared.acl.Boundary.{Boundary}
use Rattle.hci_packets.specs.declared.acl.Boundary.TheVariants.{Continuing}
use Rattle.acl_fragments.specs.Pieces.{Piece}
use Rattle.acl_fragments.specs.Cuts.{first_pieces, cut}

-- more pieces than there are octets are not needed
enough : (n m size : ℕ) (boundary : Boundary) (octets : List ℕ) → 1 ≤ size → length octets ≤ n → length octets ≤ m
    → first_pieces n size boundary octets ≡ first_pieces m size boundary octets
enough zero zero size boundary octets some in-n in-m = refl
enough zero (suc m) size boundary [] some in-n in-m = refl
enough zero (suc m) size boundary (x ∷ xs) some in-n in-m = absurd (omega arith)
enough (suc n) zero size boundary [] some in-n in-m = refl
enough (suc n) zero size boundary (x ∷ xs) some in-n in-m = absurd (omega arith)
enough (suc n) (suc m) size boundary [] some in-n in-m = refl
enough (suc n) (suc m) size boundary (x ∷ xs) some in-n in-m =
    let left = length-drop size (x ∷ xs) in
    ap (λ (pieces : List Piece). record { boundary = boundary; octets = take size (x ∷ xs) } ∷ pieces)
    (enough n m size Continuing (drop size (x ∷ xs)) some (omega (arith, left)) (omega (arith, left)))

pub cut_step : (size : ℕ) (boundary : Boundary) (octets : List ℕ) → 1 ≤ size → 0 < length octets
    → cut size boundary octets ≡ record { boundary = boundary; octets = take size octets } ∷ cut size Continuing (drop size octets)
cut_step size boundary [] some there = absurd (omega arith)
cut_step size boundary (x ∷ xs) some there =
    let left = length-drop size (x ∷ xs) in
    ap (λ (pieces : List Piece). record { boundary = boundary; octets = take size (x ∷ xs) } ∷ pieces)
    (enough (length xs) (length (drop size (x ∷ xs))) size Continuing (drop size (x ∷ xs)) some (omega (arith, left)) (omega arith))

take_min : (size : ℕ) (octets : List ℕ) → take (min (length octets) size) octets ≡ take size octets
take_min size octets =
    elim (cases_lt size (length octets)) [
      | inl below ↦ ap (λ (n : ℕ). take n octets) (omega arith)
      | inr above ↦ take_all (min (length octets) size) octets (omega arith) ∙ sym (take_all size octets above)
    ]

drop_min : (size : ℕ) (octets : List ℕ) → drop (min (length octets) size) octets ≡ drop size octets
drop_min size octets =
    elim (cases_lt size (length octets)) [
      | inl below ↦ ap (λ (n : ℕ). drop n octets) (omega arith)
      | inr above ↦ drop_all (min (length octets) size) octets (omega arith) ∙ sym (drop_all size octets above)
    ]

pub next_piece : (size count : ℕ) (boundary : Boundary) (octets front back : List ℕ) → 1 ≤ size → 0 < length octets
    → count ≡ min (length octets) size → front ≡ take count octets → back ≡ drop count octets
    → cut size boundary octets ≡ record { boundary = boundary; octets = front } ∷ cut size Continuing back
next_piece size count boundary octets front back some there count-is front-is back-is =
    let f : front ≡ take size octets = front-is ∙ ap (λ (n : ℕ). take n octets) count-is ∙ take_min size octets in
    let b : back ≡ drop size octets = back-is ∙ ap (λ (n : ℕ). drop n octets) count-is ∙ drop_min size octets in
    rw (f, b) (cut_step size boundary octets some there)
