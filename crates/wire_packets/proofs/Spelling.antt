-- Octets written one after the other.
use Rattle.std.proofs.Common.{◌≡◌, ℕ, ◌*◌, eqb, inl, inr, zero, suc, ◌+◌, ◌-◌, ◌<◌, ◌≤◌, List, [], ◌∷◌, ◌++◌, length, take, drop, set, get_or, refl, sym, ap, ◌∙◌, append_assoc, arith, length-append, add-one}
use Rattle.std.proofs.lemmas.List.{take_at, drop_at, drop-drop, drop-append-le, set_split, take_more, append-nil}
use Rattle.std.proofs.lemmas.Bool.{cases_Bool}
use Rattle.std.proofs.lemmas.Grind.{flat_map-append}
use Rattle.wire_packets.specs.Slip.{delimiter, escaped, all_escaped, slip}

-- one octet more, escaped
pub escaped_more : (xs : List ℕ) (i : ℕ) → i < length xs → all_escaped (take (i + 1) xs) ≡ all_escaped (take i xs) ++ escaped (get_or xs i 0)
escaped_more xs i lt = ap all_escaped (take_more xs i 0 lt) ∙ flat_map-append escaped (take i xs) (get_or xs i 0 ∷ []) ∙ ap (λ es. all_escaped (take i xs) ++ es) (append-nil (escaped (get_or xs i 0)))

-- what stands behind the octets that were written is what stood there
drop_on : (pre orig : List ℕ) (at at' : ℕ) → length pre ≡ at → at ≤ at' → drop at' (pre ++ drop at orig) ≡ drop at' orig
drop_on pre orig at at' long le =
    let k : at + (at' - at) ≡ at' = omega arith in
    ap (λ n. drop n (pre ++ drop at orig)) (sym k) ∙ sym (drop-drop (at' - at) at (pre ++ drop at orig)) ∙ ap (drop (at' - at)) (drop_at pre (drop at orig) at long) ∙ drop-drop (at' - at) at orig ∙ ap (λ n. drop n orig) k

pub grew : (pre orig e into into' : List ℕ) (at at' : ℕ) → into ≡ pre ++ drop at orig → length pre ≡ at → at' ≡ at + length e
    → into' ≡ take at into ++ (e ++ drop at' into) → into' ≡ (pre ++ e) ++ drop at' orig
grew pre orig e into into' at at' is long there wrote =
    let le : at ≤ at' = omega arith in
    wrote ∙ ap (λ xs. take at xs ++ (e ++ drop at' xs)) is
    ∙ ap (λ xs. xs ++ (e ++ drop at' (pre ++ drop at orig))) (take_at pre (drop at orig) at long)
    ∙ ap (λ xs. pre ++ (e ++ xs)) (drop_on pre orig at at' long le)
    ∙ sym (append_assoc pre e (drop at' orig))

-- a single octet that is written
pub put_one : (pre orig into : List ℕ) (at x : ℕ) → into ≡ pre ++ drop at orig → length pre ≡ at → at < length into → set into at x ≡ (pre ++ x ∷ []) ++ drop (at + 1) orig
put_one pre orig into at x is long lt =
    grew pre orig (x ∷ []) into (set into at x) at (at + 1) is long refl (set_split into at x lt ∙ ap (λ (n : ℕ). take at into ++ x ∷ drop n into) (sym (add-one at)))

-- there is room for each octet of a list whose escaped octets have room
pub room_for : (xs : List ℕ) (i : ℕ) → i < length xs → length (all_escaped (take i xs)) + length (escaped (get_or xs i 0)) ≤ length (all_escaped xs)
room_for [] i lt = absurd (omega arith)
room_for (x ∷ xs) zero lt = simp length-append (omega arith)
room_for (x ∷ xs) (suc i) lt = let below : i < length xs = omega arith in let rest = room_for xs i below in simp length-append (omega (arith, rest))

-- escaping makes octets at most twice as many
escaped-bound : (x : ℕ) → length (escaped x) ≤ 2
escaped-bound x = elim (cases_Bool (eqb x 0xC0)) [
  | inl e ↦ rw e (omega arith)
  | inr e ↦ elim (cases_Bool (eqb x 0xDB)) [
    | inl d ↦ rw (e, d) (omega arith)
    | inr d ↦ rw (e, d) (omega arith)
  ]
]

all_escaped-bound : (xs : List ℕ) → length (all_escaped xs) ≤ 2 * length xs
all_escaped-bound [] = omega arith
all_escaped-bound (x ∷ xs) = let here = escaped-bound x in let rest = all_escaped-bound xs in simp length-append (omega (arith, here, rest))

pub slip-bound : (xs : List ℕ) → length (slip xs) ≤ 2 + 2 * length xs
slip-bound xs = let rest = all_escaped-bound xs in simp length-append (omega (arith, rest))
