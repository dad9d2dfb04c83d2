-- Texts and their units.
use Rattle.std.proofs.Common.{◌≡◌, ℕ, zero, suc, ◌+◌, ◌-◌, ◌*◌, ◌/◌, ◌%◌, ◌^◌, ◌<◌, true, ◌&&◌, eqb, ltb, List, [], ◌∷◌, length, get_or, take, drop, refl, sym, ap, subst, ◌∙◌, arith, inl, inr, ◌⊎◌}
use Rattle.std.specs.List.{flat_map, AllByRecursion}
use Rattle.std.proofs.lemmas.Bool.{and_parts, or_cases, and_from, or_right, eqb-true, eq-eqb, ltb-true, lt-ltb}
use Rattle.std.proofs.lemmas.List.{nil_from_length, length-append, get_or-append-add}
use Rattle.byteorder.specs.Endian.{big_number, IsRead}
use Rattle.bt_base.specs.Octets.{IsOctets, be16}
use Rattle.obex_headers.specs.Packets.{units_of, text_octets, IsText}
use Rattle.obex_headers.specs.Reading.{is_text}

-- ---- octets that pass the test are a text

paired : (k : ℕ) (t : List ℕ) → IsOctets t → length t ≡ 2 * k + 2 → get_or t (2 * k) 0 ≡ 0 → get_or t (2 * k + 1) 0 ≡ 0 → t ≡ text_octets (units_of t)
paired k [] h len a b = absurd (omega arith)
paired k (high ∷ []) h len a b = absurd (omega arith)
paired k (high ∷ low ∷ []) h len a b =
    let none : k ≡ 0 = omega arith in
    let a0 : high ≡ 0 = rw none at a in
    let b0 : low ≡ 0 = rw none at b in
    rw (a0, b0) refl
paired zero (high ∷ low ∷ next ∷ rest) h len a b = absurd (omega arith)
paired (suc j) (high ∷ low ∷ next ∷ rest) h len a b =
    let h0 = h 0 in
    let h1 = h 1 in
    let i0 : 2 * suc j ≡ suc (suc (2 * j)) = omega arith in
    let i1 : 2 * suc j + 1 ≡ suc (suc (2 * j + 1)) = omega arith in
    let a' : get_or (next ∷ rest) (2 * j) 0 ≡ 0 = rw i0 at a in
    let b' : get_or (next ∷ rest) (2 * j + 1) 0 ≡ 0 = rw i1 at b in
    let others = paired j (next ∷ rest) (λ i. h (suc (suc i))) (omega arith) a' b' in
    let e0 : (256 * high + low) / 256 % 256 ≡ high = omega arith in
    let e1 : (256 * high + low) % 256 ≡ low = omega arith in
    ap (λ x. high ∷ low ∷ x) others ∙ ap (λ x. x ∷ low ∷ text_octets (units_of (next ∷ rest))) (sym e0) ∙ ap (λ x. ((256 * high + low) / 256 % 256) ∷ x ∷ text_octets (units_of (next ∷ rest))) (sym e1)

ends_well : (t : List ℕ) → 1 < length t → get_or t (length t - 2) 0 ≡ 0 → get_or t (length t - 1) 0 ≡ 0 → 2 * (length t / 2) ≡ length t → IsOctets t → t ≡ text_octets (units_of t)
ends_well t l a b even h =
    let k = length t / 2 - 1 in
    let e : length t ≡ 2 * k + 2 = omega arith in
    let i0 : length t - 2 ≡ 2 * k = omega arith in
    let i1 : length t - 1 ≡ 2 * k + 1 = omega arith in
    paired k t h e (rw (← i0) a) (rw (← i1) b)

pub text_passed : (t : List ℕ) → IsOctets t → is_text t ≡ true → IsText t
text_passed t h e =
    let two = ltb 1 (length t) in
    let high = eqb (get_or t (length t - 2) 0) 0 in
    let low = eqb (get_or t (length t - 1) 0) 0 in
    let even = eqb (2 * (length t / 2)) (length t) in
    elim (or_cases (eqb (length t) 0) (two && high && low && even) e) [
      | inl none ↦ inl (nil_from_length t (eqb-true _ _ none))
      | inr rest ↦
          let p = and_parts (two && high && low) even rest in
          let q = and_parts (two && high) low p.0 in
          let r = and_parts two high q.0 in
          inr (ends_well t (ltb-true _ _ r.0) (eqb-true _ _ r.1) (eqb-true _ _ q.1) (eqb-true _ _ p.1) h)
    ]

-- ---- a text passes the test

length-units : (us : List ℕ) → length (flat_map be16 us) ≡ 2 * length us
length-units [] = refl
length-units (u ∷ us) = let e = length-units us in omega arith

pub length-text : (us : List ℕ) → length (text_octets us) ≡ 2 * length us + 2
length-text us = omega (arith, length-append (flat_map be16 us) (be16 0), length-units us)

passes_from : (t : List ℕ) → 1 < length t → get_or t (length t - 2) 0 ≡ 0 → get_or t (length t - 1) 0 ≡ 0 → 2 * (length t / 2) ≡ length t → is_text t ≡ true
passes_from t l a b even =
    let two = ltb 1 (length t) in
    let high = eqb (get_or t (length t - 2) 0) 0 in
    let low = eqb (get_or t (length t - 1) 0) 0 in
    let whole = eqb (2 * (length t / 2)) (length t) in
    or_right (eqb (length t) 0) (two && high && low && whole)
    (and_from (two && high && low) whole (and_from (two && high) low (and_from two high (lt-ltb _ _ l) (eq-eqb _ _ a)) (eq-eqb _ _ b)) (eq-eqb _ _ even))

spelled_passes : (us : List ℕ) → is_text (text_octets us) ≡ true
spelled_passes us =
    let len = length-text us in
    let i0 : length (text_octets us) - 2 ≡ length (flat_map be16 us) + 0 = omega (arith, length-units us) in
    let i1 : length (text_octets us) - 1 ≡ length (flat_map be16 us) + 1 = omega (arith, length-units us) in
    passes_from (text_octets us) (omega arith)
    (ap (λ (i : ℕ). get_or (text_octets us) i 0) i0 ∙ get_or-append-add (flat_map be16 us) (0 ∷ 0 ∷ []) 0 0)
    (ap (λ (i : ℕ). get_or (text_octets us) i 0) i1 ∙ get_or-append-add (flat_map be16 us) (0 ∷ 0 ∷ []) 1 0)
    (omega arith)

pub text_passes : (t : List ℕ) → IsText t → is_text t ≡ true
text_passes t h =
    elim h [
      | inl none ↦ rw none refl
      | inr spelled ↦ rw spelled (spelled_passes (units_of t))
    ]

-- ---- units again

pub units_again : (us : List ℕ) → AllByRecursion (λ u. u < 2 ^ 16) us → units_of (text_octets us) ≡ us
units_again [] h = refl
units_again (u ∷ []) h = let e : 256 * (u / 256 % 256) + u % 256 ≡ u = let h0 = h.0 in omega arith in ap (λ x. x ∷ []) e
units_again (u ∷ v ∷ us) h =
    let e : 256 * (u / 256 % 256) + u % 256 ≡ u = let h0 = h.0 in omega arith in
    ap (λ x. x ∷ units_of (text_octets (v ∷ us))) e ∙ ap (λ x. u ∷ x) (units_again (v ∷ us) h.1)

-- ---- units as they are read, two octets each

pub units_len : (k : ℕ) (t : List ℕ) → length t ≡ 2 * k + 2 → length (units_of t) ≡ k
units_len k [] len = absurd (omega arith)
units_len k (a ∷ []) len = absurd (omega arith)
units_len k (a ∷ b ∷ []) len = omega arith
units_len zero (a ∷ b ∷ c ∷ rest) len = absurd (omega arith)
units_len (suc j) (a ∷ b ∷ c ∷ rest) len = ap suc (units_len j (c ∷ rest) (omega arith))

units_read : (k : ℕ) (t dst : List ℕ) → length t ≡ 2 * k + 2 → length dst ≡ k → IsRead big_number 2 (take (2 * k) t) dst → dst ≡ units_of t
units_read k [] dst len l read = absurd (omega arith)
units_read k (a ∷ []) dst len l read = absurd (omega arith)
units_read k (a ∷ b ∷ []) dst len l read = nil_from_length dst (omega arith)
units_read zero (a ∷ b ∷ c ∷ rest) dst len l read = absurd (omega arith)
units_read (suc j) (a ∷ b ∷ c ∷ rest) [] len l read = absurd (omega arith)
units_read (suc j) (a ∷ b ∷ c ∷ rest) (d ∷ ds) len l read =
    let i : 2 * suc j ≡ suc (suc (2 * j)) = omega arith in
    let first : d ≡ big_number 2 (take (2 * suc j) (a ∷ b ∷ c ∷ rest)) = read 0 (omega arith) in
    let front : d ≡ big_number 2 (take (suc (suc (2 * j))) (a ∷ b ∷ c ∷ rest)) = subst (λ (k : ℕ). d ≡ big_number 2 (take k (a ∷ b ∷ c ∷ rest))) i first in
    let unit : d ≡ 256 * a + b = omega arith in
    let others : IsRead big_number 2 (take (2 * j) (c ∷ rest)) ds = λ k h.
    let i' : 2 * suc k ≡ suc (suc (2 * k)) = omega arith in
    let here : get_or ds k 0 ≡ big_number 2 (drop (2 * suc k) (take (2 * suc j) (a ∷ b ∷ c ∷ rest))) = read (suc k) (omega arith) in
    let at_j : get_or ds k 0 ≡ big_number 2 (drop (2 * suc k) (take (suc (suc (2 * j))) (a ∷ b ∷ c ∷ rest))) = subst (λ (n : ℕ). get_or ds k 0 ≡ big_number 2 (drop (2 * suc k) (take n (a ∷ b ∷ c ∷ rest)))) i here in
    subst (λ (n : ℕ). get_or ds k 0 ≡ big_number 2 (drop n (take (suc (suc (2 * j))) (a ∷ b ∷ c ∷ rest)))) i' at_j in
    ap (λ (x : ℕ). x ∷ ds) unit ∙ ap (λ (xs : List ℕ). (256 * a + b) ∷ xs) (units_read j (c ∷ rest) ds (omega arith) (omega arith) others)

-- the length of a text is even
abbrev HasPairs : List ℕ → Type 0
HasPairs t = (k : ℕ) × (length t ≡ 2 * k + 2)

text_cases : (t : List ℕ) → IsText t → (t ≡ []) ⊎ HasPairs t
text_cases t h =
    elim h [
      | inl none ↦ inl none
      | inr spelled ↦ inr (length (units_of t), ap length spelled ∙ length-text (units_of t))
    ]

pub name_len : (t : List ℕ) → IsText t → length (units_of t) ≡ length t / 2 - 1
name_len t h =
    elim (text_cases t h) [
      | inl none ↦ rw none refl
      | inr pairs ↦ omega (arith, units_len pairs.0 t pairs.1, pairs.1)
    ]

pub name_read : (t dst : List ℕ) (n : ℕ) → IsText t → n ≡ length t / 2 - 1 → length dst ≡ n → IsRead big_number 2 (take (2 * n) t) dst → dst ≡ units_of t
name_read t dst n h e len read =
    elim (text_cases t h) [
      | inl none ↦
          let no : length t ≡ 0 = ap length none in
          let empty : dst ≡ [] = nil_from_length dst (omega arith) in
          empty ∙ sym (ap units_of none)
      | inr pairs ↦
          let p = pairs.1 in
          let k : n ≡ pairs.0 = omega arith in
          units_read pairs.0 t dst p (omega arith) (subst (λ (m : ℕ). IsRead big_number 2 (take (2 * m) t) dst) k read)
    ]
