-- The pieces that are left of a PDU.
use Rattle.std.proofs.Common.{◌≡◌, ℕ, zero, suc, ◌+◌, ◌≤◌, ◌<◌, ◌==◌, min, List, [], ◌∷◌, length, take, drop, refl, sym, ap, ◌∙◌, length-drop, arith}
use Rattle.std.proofs.lemmas.Bool.{ne_eqb}
use Rattle.std.proofs.lemmas.List.{drop-drop}
use Rattle.std.proofs.Common.{false}
use Rattle.hci_packets.specs.declared.acl.Boundary.{Boundary}
use Rattle.hci_packets.specs.declared.acl.Boundary.TheVariants.{Continuing}
use Rattle.acl_fragments.specs.Pieces.{Piece}
use Rattle.acl_fragments.specs.Cuts.{cut, first_pieces}
use Rattle.acl_fragments.proofs.Cutting.{next_piece}
use Rattle.host_link.specs.Waiting.{Waiting, boundary_after, waiting_of}

nothing_at : (n : ℕ) → (suc n == 0) ≡ false
nothing_at n = ne_eqb (suc n) 0 (λ (e : suc n ≡ 0). omega arith)

-- no piece is left where no octet is
pub none_left : (size : ℕ) (boundary : Boundary) (octets : List ℕ) → (length octets == 0) ≡ (length (cut size boundary octets) == 0)
none_left size boundary [] = refl
none_left size boundary (x ∷ xs) = nothing_at (length xs) ∙ sym (nothing_at (length (first_pieces (length xs) size Continuing (drop size (x ∷ xs)))))

pub no_piece : (size : ℕ) (boundary : Boundary) (octets : List ℕ) → (cut size boundary octets ≡ [] → ⊥) → 0 < length octets
no_piece size boundary [] some = absurd (some refl)
no_piece size boundary (x ∷ xs) some = omega arith

shaped : (xs ys : List Piece) (x : Piece) → xs ≡ x ∷ ys → xs ≡ x ∷ drop 1 xs
shaped xs ys x e = e ∙ ap (λ (zs : List Piece). x ∷ drop 1 zs) (sym e)

-- the next piece
pub first_left : (size count : ℕ) (boundary : Boundary) (rest octets : List ℕ) → 1 ≤ size → 0 < length rest → count ≡ min (length rest) size → octets ≡ take count rest
    → cut size boundary rest ≡ record { boundary = boundary; octets = octets } ∷ drop 1 (cut size boundary rest)
first_left size count boundary rest octets some there is octets-is =
    shaped (cut size boundary rest) (cut size Continuing (drop count rest)) (record { boundary = boundary; octets = octets }) (next_piece size count boundary rest octets (drop count rest) some there is octets-is refl)

later : (n : ℕ) → 1 ≤ n → boundary_after n ≡ Continuing
later zero some = absurd (omega arith)
later (suc n) some = refl

-- all but the next piece
pub left_behind : (size gone count : ℕ) (pdu : List ℕ) → 1 ≤ size → 0 < length (drop gone pdu) → count ≡ min (length (drop gone pdu)) size
    → waiting_of size (gone + count) pdu ≡ record { size = size; pieces = drop 1 (cut size (boundary_after gone) (drop gone pdu)) }
left_behind size gone count pdu some there is =
    let rest : List ℕ = drop gone pdu in
    let behind : cut size Continuing (drop count rest) ≡ drop 1 (cut size (boundary_after gone) rest) =
    sym (ap (λ pieces. drop 1 pieces) (next_piece size count (boundary_after gone) rest (take count rest) (drop count rest) some there is refl refl)) in
    ap (λ pieces. let waiting : Waiting = record { size = size; pieces = pieces } in waiting)
    (ap (λ b. cut size b (drop (gone + count) pdu)) (later (gone + count) (omega (arith, length-drop gone pdu))) ∙ ap (λ xs. cut size Continuing xs) (sym (drop-drop count gone pdu)) ∙ behind)
