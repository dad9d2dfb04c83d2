-- Octets that are written one behind the other.
use Rattle.std.proofs.Common.{◌≡◌, ℕ, zero, suc, ◌+◌, ◌≤◌, Bool, true, false, cond, eqb, List, [], ◌∷◌, ◌++◌, length, take, drop, sym, ap, ◌∙◌, arith}
use Rattle.std.proofs.lemmas.List.{take_at, drop_at, drop-drop}
use Rattle.bt_base.specs.Octets.{IsOctets, le16}
use Rattle.ertm_frames.specs.Frames.{information, body_of}

-- what stands at the front grows, and what stands behind it is as at first
pub grown : (done octets first old new : List ℕ) (place end : ℕ) → length done ≡ place → old ≡ done ++ drop place first
    → end ≡ place + length octets → new ≡ take place old ++ (octets ++ drop end old) → new ≡ done ++ (octets ++ drop end first)
grown done octets first old new place end size was reach written =
    let front : take place old ≡ done = ap (take place) was ∙ take_at done (drop place first) place size in
    let rest : drop place old ≡ drop place first = ap (drop place) was ∙ drop_at done (drop place first) place size in
    let behind : drop end old ≡ drop end first =
    ap (λ (n : ℕ). drop n old) reach ∙ sym (drop-drop (length octets) place old) ∙ ap (drop (length octets)) rest
    ∙ drop-drop (length octets) place first ∙ ap (λ (n : ℕ). drop n first) (sym reach) in
    written ∙ ap (λ (x : List ℕ). x ++ (octets ++ drop end old)) front ∙ ap (λ (x : List ℕ). done ++ (octets ++ x)) behind

-- the SDU's length that a start states takes two octets
stated : (starts : Bool) (total : ℕ) (octets : List ℕ) → length (cond starts (le16 total) [] ++ octets) ≤ 2 + length octets
stated true total octets = omega arith
stated false total octets = omega arith

pub length-body_of : (tx req sar total : ℕ) (octets : List ℕ) → length (body_of (information tx false req sar total octets)) ≤ 2 + length octets
length-body_of tx req sar total octets = stated (eqb sar 1) total octets

pub octets-append : (front back : List ℕ) → IsOctets front → IsOctets back → IsOctets (front ++ back)
octets-append [] back first second i = second i
octets-append (octet ∷ front) back first second zero = first 0
octets-append (octet ∷ front) back first second (suc i) = octets-append front back (λ j. first (suc j)) second i
