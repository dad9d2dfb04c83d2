-- Octets that were written one behind the other.
use Rattle.std.proofs.Common.{◌≡◌, ℕ, suc, ◌+◌, ◌-◌, ◌≤◌, List, [], ◌∷◌, ◌++◌, length, set, take, drop, sym, ap, ◌∙◌, append_assoc, arith}
use borrow.Rule.Slice.PartMut.{put_mid}
use Rattle.std.proofs.lemmas.List.{append-nil, take_all, drop_all, take_at, drop_at, drop-drop}

-- content behind a front, where the rest was kept
pub written_behind : (front content old mid : List ℕ) (at end : ℕ) → mid ≡ front ++ drop at old → at ≡ length front → end ≡ at + length content → take at mid ++ (content ++ drop end mid) ≡ (front ++ content) ++ drop end old
written_behind front content old mid at end e l m =
    let rest : drop at mid ≡ drop at old = ap (drop at) e ∙ drop_at front (drop at old) at (sym l) in
    let behind : drop end mid ≡ drop end old =
    ap (λ (n : ℕ). drop n mid) m ∙ sym (drop-drop (length content) at mid) ∙ ap (drop (length content)) rest ∙ drop-drop (length content) at old ∙ ap (λ (n : ℕ). drop n old) (sym m) in
    ap (λ (xs : List ℕ). take at xs ++ (content ++ drop end mid)) e ∙ ap (λ (xs : List ℕ). xs ++ (content ++ drop end mid)) (take_at front (drop at old) at (sym l))
    ∙ ap (λ (xs : List ℕ). front ++ (content ++ xs)) behind ∙ sym (append_assoc front content (drop end old))

-- octets behind a header
pub number_put : (h g w end : ℕ) (old bytes written : List ℕ) → h ≡ g → end ≡ 1 + w → 1 ≤ length old → written ≡ bytes ++ drop w (take (length (set old 0 h) - 1) (drop 1 (set old 0 h)))
    → put_mid 1 (length (set old 0 h) - 1) (set old 0 h) written ≡ g ∷ (bytes ++ drop end old)
number_put h g w end [] bytes written same place room e = absurd (omega arith)
number_put h g w end (a ∷ rest) bytes written same place room e =
    let n = length (h ∷ rest) - 1 in
    let all : take n rest ≡ rest = take_all n rest (omega arith) in
    let nothing : drop n rest ≡ [] = drop_all n rest (omega arith) in
    let more : suc w ≡ end = omega arith in
    let behind : drop w rest ≡ drop end (a ∷ rest) = ap (λ (k : ℕ). drop k (a ∷ rest)) more in
    ap (λ (y : List ℕ). h ∷ (written ++ y)) nothing ∙ ap (λ (y : List ℕ). h ∷ y) (append-nil written ∙ e ∙ ap (λ (y : List ℕ). bytes ++ drop w y) all ∙ ap (λ (y : List ℕ). bytes ++ y) behind)
    ∙ ap (λ (k : ℕ). k ∷ (bytes ++ drop end (a ∷ rest))) same
