-- A packet on the line ends where it ends, whatever follows it.
use Rattle.std.proofs.Common.{◌≡◌, ◌≢◌, ℕ, cond, List, [], ◌∷◌, ◌++◌, drop, eqb, inl, inr, refl, sym, ap, subst, ◌∙◌, append_assoc, arith}
use Rattle.std.proofs.lemmas.Bool.{cases_eq, ne_eqb}
use Rattle.wire_packets.specs.Slip.{escaped, all_escaped, slip}

-- the octet that stands escaped in front, and what stands behind it
abbrev in_front : List ℕ → ℕ × List ℕ
in_front [] = (0, [])
in_front (x ∷ []) = (x, [])
in_front (x ∷ y ∷ rest) = cond (eqb x 0xDB) (cond (eqb y 0xDC) (0xC0, rest) (0xDB, rest)) (x, y ∷ rest)

plain_front : (x : ℕ) (rest : List ℕ) → x ≢ 0xDB → in_front (x ∷ rest) ≡ (x, rest)
plain_front x [] not = refl
plain_front x (y ∷ rest) not = rw (ne_eqb x 0xDB not) refl

escaped_front : (x : ℕ) (rest : List ℕ) → in_front (escaped x ++ rest) ≡ (x, rest)
escaped_front x rest = elim (cases_eq x 0xC0) [
  | inl e ↦ subst (λ (n : ℕ). in_front (escaped n ++ rest) ≡ (n, rest)) (sym e) refl
  | inr c ↦ elim (cases_eq x 0xDB) [
    | inl e ↦ subst (λ (n : ℕ). in_front (escaped n ++ rest) ≡ (n, rest)) (sym e) refl
    | inr d ↦ let one : escaped x ≡ x ∷ [] = rw (ne_eqb x 0xC0 c, ne_eqb x 0xDB d) refl in ap (λ (o : List ℕ). in_front (o ++ rest)) one ∙ plain_front x rest d
  ]
]

-- no octet is written with a delimiter in front
no_delimiter : (x : ℕ) (r s : List ℕ) → 0xC0 ∷ r ≡ escaped x ++ s → ⊥
no_delimiter x r s e = elim (cases_eq x 0xC0) [
  | inl c ↦ absurd (first_not (e ∙ ap (λ (n : ℕ). escaped n ++ s) c))
  | inr c ↦ elim (cases_eq x 0xDB) [
    | inl d ↦ absurd (first_not (e ∙ ap (λ (n : ℕ). escaped n ++ s) d))
    | inr d ↦ let one : escaped x ≡ x ∷ [] = rw (ne_eqb x 0xC0 c, ne_eqb x 0xDB d) refl in c (sym (first_same (e ∙ ap (λ (o : List ℕ). o ++ s) one)))
  ]
]
  where
    first_same : {x y : ℕ} {xs ys : List ℕ} → x ∷ xs ≡ y ∷ ys → x ≡ y
    first_same e = cc

    first_not : {xs ys : List ℕ} → 0xC0 ∷ xs ≡ 0xDB ∷ ys → ⊥
    first_not e = let same = first_same e in omega (arith, same)

-- escaped octets up to their delimiter
pub delimited_front : (xs ys r s : List ℕ) → all_escaped xs ++ 0xC0 ∷ r ≡ all_escaped ys ++ 0xC0 ∷ s → (xs ≡ ys) × (r ≡ s)
delimited_front [] [] r s e = (refl, ap (drop 1) e)
delimited_front [] (y ∷ ys) r s e = absurd (no_delimiter y r (all_escaped ys ++ 0xC0 ∷ s) (e ∙ append_assoc (escaped y) (all_escaped ys) (0xC0 ∷ s)))
delimited_front (x ∷ xs) [] r s e = absurd (no_delimiter x s (all_escaped xs ++ 0xC0 ∷ r) (sym e ∙ append_assoc (escaped x) (all_escaped xs) (0xC0 ∷ r)))
delimited_front (x ∷ xs) (y ∷ ys) r s e =
    let left = all_escaped xs ++ 0xC0 ∷ r in
    let right = all_escaped ys ++ 0xC0 ∷ s in
    let same : escaped x ++ left ≡ escaped y ++ right = sym (append_assoc (escaped x) (all_escaped xs) (0xC0 ∷ r)) ∙ e ∙ append_assoc (escaped y) (all_escaped ys) (0xC0 ∷ s) in
    let both : ◌≡◌ {A = ℕ × List ℕ} (x, left) (y, right) = sym (escaped_front x left) ∙ ap in_front same ∙ escaped_front y right in
    let rest = delimited_front xs ys r s (ap (λ (p : ℕ × List ℕ). p.1) both) in
    (ap (λ (n : ℕ). n ∷ xs) (ap (λ (p : ℕ × List ℕ). p.0) both) ∙ ap (λ (ns : List ℕ). y ∷ ns) rest.0, rest.1)

-- a packet between its delimiters
pub slip_front : (xs ys r s : List ℕ) → slip xs ++ r ≡ slip ys ++ s → (xs ≡ ys) × (r ≡ s)
slip_front xs ys r s e =
    delimited_front xs ys r s (sym (append_assoc (all_escaped xs) (0xC0 ∷ []) r) ∙ ap (drop 1) e ∙ append_assoc (all_escaped ys) (0xC0 ∷ []) s)
