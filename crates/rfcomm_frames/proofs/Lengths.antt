-- Length fields are read in one way.
use Rattle.std.proofs.Common.{◌≡◌, ◌≢◌, ℕ, ◌+◌, ◌*◌, ◌/◌, ◌%◌, ◌^◌, ◌<◌, List, ◌∷◌, ◌++◌, refl, sym, ap, subst, ◌∙◌, arith, inl, inr, length, ◌≤◌}
use Rattle.std.proofs.lemmas.Bool.{lt-ltb, le-ltb, cases_lt}
use Rattle.bt_base.specs.Octets.{IsOctets}
use Rattle.rfcomm_frames.specs.Lengths.{one_octet, two_octets, States, shortest}

first_fits : (octets behind : List ℕ) (first : ℕ) → IsOctets octets → octets ≡ first ∷ behind → first < 256
first_fits octets behind first fits is = let all = subst IsOctets is fits in all 0

-- the field at the front of octets
abbrev pub Split : List ℕ → ℕ → List ℕ → Type 0
Split octets n behind = (field : List ℕ) × States field n × (octets ≡ field ++ behind)

pub one_split : (octets behind : List ℕ) (first n : ℕ) → IsOctets octets → octets ≡ first ∷ behind → first % 2 ≡ 1 → n ≡ first / 2 → Split octets n behind
one_split octets behind first n fits is odd n_is =
    let small : first < 256 = first_fits octets behind first fits is in
    let whole : first ≡ 0x01 + 2 * n = omega arith in
    let states : States (one_octet n) n = inl (omega arith, refl) in
    (one_octet n, states, is ∙ ap (λ (k : ℕ). k ∷ behind) whole)

pub two_split : (octets inner behind : List ℕ) (first second n : ℕ) → IsOctets octets → octets ≡ first ∷ inner → inner ≡ second ∷ behind → first % 2 ≢ 1
    → n ≡ first / 2 + 128 * second → Split octets n behind
two_split octets inner behind first second n fits is next even n_is =
    let small : first < 256 = first_fits octets inner first fits is in
    let both : octets ≡ first ∷ second ∷ behind = is ∙ ap (λ (xs : List ℕ). first ∷ xs) next in
    let also : second < 256 = let all = subst IsOctets both fits in all 1 in
    let low : first ≡ 2 * (n % 128) = omega arith in
    let high : second ≡ n / 128 = omega arith in
    let states : States (two_octets n) n = inr (omega arith, refl) in
    (two_octets n, states, both ∙ ap (λ (k : ℕ). k ∷ second ∷ behind) low ∙ ap (λ (k : ℕ). (2 * (n % 128)) ∷ k ∷ behind) high)

pub heads_are : (x y : ℕ) (xs ys : List ℕ) → x ∷ xs ≡ y ∷ ys → (x ≡ y) × (xs ≡ ys)
heads_are x y xs ys e = (cc, cc)

in_front : (field other behind : List ℕ) → field ≡ other → field ++ behind ≡ other ++ behind
in_front field other behind is = ap (λ (f : List ℕ). f ++ behind) is

-- a field with octets behind it states one number, and ends at one place
pub field_same : (field field' behind behind' : List ℕ) (n n' : ℕ) → States field n → States field' n' → field ++ behind ≡ field' ++ behind'
    → (n ≡ n') × (field ≡ field') × (behind ≡ behind')
field_same field field' behind behind' n n' (inl (small, is)) (inl (small', is')) e =
    let h = heads_are (0x01 + 2 * n) (0x01 + 2 * n') behind behind' (sym (in_front field (one_octet n) behind is) ∙ e ∙ in_front field' (one_octet n') behind' is') in
    let same : n ≡ n' = omega (arith, h.0) in
    (same, is ∙ ap one_octet same ∙ sym is', h.1)
field_same field field' behind behind' n n' (inl (small, is)) (inr (small', is')) e =
    let h = heads_are (0x01 + 2 * n) (2 * (n' % 128)) behind ((n' / 128) ∷ behind') (sym (in_front field (one_octet n) behind is) ∙ e ∙ in_front field' (two_octets n') behind' is') in
    absurd (omega (arith, h.0))
field_same field field' behind behind' n n' (inr (small, is)) (inl (small', is')) e =
    let h = heads_are (2 * (n % 128)) (0x01 + 2 * n') ((n / 128) ∷ behind) behind' (sym (in_front field (two_octets n) behind is) ∙ e ∙ in_front field' (one_octet n') behind' is') in
    absurd (omega (arith, h.0))
field_same field field' behind behind' n n' (inr (small, is)) (inr (small', is')) e =
    let h = heads_are (2 * (n % 128)) (2 * (n' % 128)) ((n / 128) ∷ behind) ((n' / 128) ∷ behind') (sym (in_front field (two_octets n) behind is) ∙ e ∙ in_front field' (two_octets n') behind' is') in
    let t = heads_are (n / 128) (n' / 128) behind behind' h.1 in
    let same : n ≡ n' = omega (arith, h.0, t.0) in
    (same, is ∙ ap two_octets same ∙ sym is', t.1)

pub states-shortest : (n : ℕ) → n < 2 ^ 15 → States (shortest n) n
states-shortest n few =
    elim (cases_lt n 128) [
      | inl less ↦ inl (less, rw (lt-ltb n 128 less) refl)
      | inr more ↦ inr (few, rw (le-ltb n 128 more) refl)
    ]

-- a field that states the number is as long as the shortest one, or longer
pub shortest_no_longer : (field : List ℕ) (n : ℕ) → States field n → (length (shortest n) ≤ length field) × (n < 2 ^ 15)
shortest_no_longer field n (inl (small, is)) =
    let e : length (shortest n) ≡ 1 = rw (lt-ltb n 128 small) refl in
    (omega (arith, ap length is), omega arith)
shortest_no_longer field n (inr (few, is)) = (omega (arith, ap length is, at_most_two n), few)
  where
    at_most_two : (k : ℕ) → length (shortest k) ≤ 2
    at_most_two k =
        elim (cases_lt k 128) [
          | inl less ↦ let e : length (shortest k) ≡ 1 = rw (lt-ltb k 128 less) refl in omega arith
          | inr more ↦ let e : length (shortest k) ≡ 2 = rw (le-ltb k 128 more) refl in omega arith
        ]
