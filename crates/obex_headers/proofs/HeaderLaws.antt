-- Reading headers one after the other.
use Rattle.std.proofs.Common.{◌≡◌, ℕ, zero, suc, ◌+◌, ◌-◌, ◌*◌, ◌/◌, ◌%◌, ◌^◌, ◌<◌, ◌≤◌, Bool, true, false, cond, ltb, List, [], ◌∷◌, ◌++◌, length, take, drop, Result, Ok, Err, refl, sym, ap, subst, ◌∙◌, append_assoc, arith, inl, inr, ◌⊎◌}
use Rattle.std.specs.Prelude.{IfOk, IsOkAnd}
use Rattle.std.specs.List.{AllByRecursion}
use Rattle.std.proofs.lemmas.Bool.{ltb-true, ltb-false, lt-ltb, le-ltb, cond-true, cond-false}
use Rattle.std.proofs.lemmas.List.{append-nil, length-append, length-drop, length-take, take-append-drop, take_at, drop_at, nil_from_length}
use Rattle.bt_base.specs.Octets.{IsOctets, be16, be32}
use Rattle.byteorder.specs.Endian.{big_number}
use Rattle.obex_headers.specs.declared.fault.ObexRefusal.{ObexRefusal}
use Rattle.obex_headers.specs.declared.fault.ObexRefusal.TheVariants.{BadHeaderLength, BadText}
use Rattle.obex_headers.specs.Packets.{PlainValue, PlainHeader, Text, Octets, One, Four, value_octets, header_octets, headers_octets, HasForm, IsHeader}
use Rattle.bt_base.proofs.OctetLemmas.{be32-number}
use Rattle.obex_headers.proofs.Numbers.{IsOctets-drop, IsOctets-take, IsOctets-rest, be16_back, be32_back, big_number_2-lt, big_number_4-lt}
use Rattle.obex_headers.proofs.Texts.{text_passed, text_passes}
use Rattle.obex_headers.specs.Reading.{◌>>=◌, Gives, is_text, sized_at, text_at, octets_at, one_at, four_at, value_at, header_at, headers_at, headers_in}

-- the value of a step that did not fail
pub bind_ok : {A B : Type 0} (r : Result A ObexRefusal) (f : A → Result B ObexRefusal) (y : B) → (r >>= f) ≡ Ok y → (x : A) × (r ≡ Ok x) × (f x ≡ Ok y)
bind_ok (Ok x) f y e = (x, refl, e)
bind_ok (Err d) f y e = absurd cc

-- tests that did not refuse
pub passed : {A : Type 0} (b : Bool) (d : ObexRefusal) (r : Result A ObexRefusal) (y : A) → cond b (Err d) r ≡ Ok y → (b ≡ false) × (r ≡ Ok y)
passed true d r y e = absurd cc
passed false d r y e = (refl, e)

pub passed_else : {A : Type 0} (b : Bool) (d : ObexRefusal) (r : Result A ObexRefusal) (y : A) → cond b r (Err d) ≡ Ok y → (b ≡ true) × (r ≡ Ok y)
passed_else true d r y e = (refl, e)
passed_else false d r y e = absurd cc

-- which side a test takes
pub chosen : {A : Type 0} (b : Bool) (x y z : A) → cond b x y ≡ z → ((b ≡ true) × (x ≡ z)) ⊎ ((b ≡ false) × (y ≡ z))
chosen true x y z e = inl (refl, e)
chosen false x y z e = inr (refl, e)

abbrev done : {A : Type 0} → A → Result A ObexRefusal
done x = Ok x

pub ok_is : {A : Type 0} (x y : A) → done x ≡ done y → x ≡ y
ok_is x y e = cc

-- ---- a length and what it counts

-- what a reader took from the front
pub record Takes (octets text rest : List ℕ) : Type 0 where
  pub parts : octets ≡ text ++ rest
  pub rest_fits : IsOctets rest

sized_takes : (octets : List ℕ) (x : List ℕ × List ℕ) → IsOctets octets → sized_at octets ≡ Ok x → Takes octets (be16 (3 + length x.0) ++ x.0) x.1 × (3 + length x.0 < 2 ^ 16) × IsOctets x.0
unfolding sized_at
sized_takes octets x fits e =
    let a = passed (ltb (length octets) 2) BadHeaderLength _ x e in
    let b = passed (ltb (big_number 2 octets) 3) BadHeaderLength _ x a.1 in
    let c = passed (ltb (1 + length octets) (big_number 2 octets)) BadHeaderLength _ x b.1 in
    let n = big_number 2 octets in
    let la : 2 ≤ length octets = ltb-false _ _ a.0 in
    let lb : 3 ≤ n = ltb-false _ _ b.0 in
    let lc : n ≤ 1 + length octets = ltb-false _ _ c.0 in
    let d = drop 2 octets in
    let len : length (take (n - 3) d) ≡ n - 3 = omega (arith, length-take (n - 3) d, length-drop 2 octets) in
    let whole : 3 + length (take (n - 3) d) ≡ n = omega arith in
    let front : octets ≡ be16 n ++ d = be16_back octets fits la in
    let split : octets ≡ be16 n ++ (take (n - 3) d ++ drop (n - 3) d) = front ∙ ap (λ (y : List ℕ). be16 n ++ y) (sym (take-append-drop (n - 3) d)) in
    let joined : octets ≡ (be16 n ++ take (n - 3) d) ++ drop (n - 3) d = split ∙ sym (append_assoc (be16 n) (take (n - 3) d) (drop (n - 3) d)) in
    let all_fit = IsOctets-drop 2 octets fits in
    let parts : octets ≡ (be16 (3 + length (take (n - 3) d)) ++ take (n - 3) d) ++ drop (n - 3) d = joined ∙ ap (λ (k : ℕ). (be16 k ++ take (n - 3) d) ++ drop (n - 3) d) (sym whole) in
    let made : List ℕ × List ℕ = (take (n - 3) d, drop (n - 3) d) in
    subst (λ (y : List ℕ × List ℕ). Takes octets (be16 (3 + length y.0) ++ y.0) y.1 × (3 + length y.0 < 2 ^ 16) × IsOctets y.0) (ok_is made x c.1)
    (record { parts = parts; rest_fits = IsOctets-drop (n - 3) d all_fit }, omega (arith, big_number_2-lt octets fits), IsOctets-take (n - 3) d all_fit)

sized_front : (a b : ℕ) (part rest : List ℕ) → 256 * a + b ≡ 3 + length part → sized_at (a ∷ b ∷ (part ++ rest)) ≡ Ok (part, rest)
unfolding sized_at
sized_front a b part rest e =
    let n : big_number 2 (a ∷ b ∷ (part ++ rest)) ≡ 3 + length part = omega arith in
    let n3 : big_number 2 (a ∷ b ∷ (part ++ rest)) - 3 ≡ length part = omega arith in
    let t1 : ltb (length (a ∷ b ∷ (part ++ rest))) 2 ≡ false = le-ltb _ _ (omega arith) in
    let t2 : ltb (big_number 2 (a ∷ b ∷ (part ++ rest))) 3 ≡ false = le-ltb _ _ (omega arith) in
    let t3 : ltb (1 + length (a ∷ b ∷ (part ++ rest))) (big_number 2 (a ∷ b ∷ (part ++ rest))) ≡ false = le-ltb _ _ (omega (arith, length-append part rest)) in
    rw (t1, t2, t3, n3, take_at part rest (length part) refl, drop_at part rest (length part) refl) refl

sized_again : (part rest : List ℕ) → 3 + length part < 2 ^ 16 → sized_at (be16 (3 + length part) ++ (part ++ rest)) ≡ Ok (part, rest)
sized_again part rest h = sized_front ((3 + length part) / 256 % 256) ((3 + length part) % 256) part rest (omega arith)

-- ---- values

-- what was taken is a value of this form
abbrev TakesValue : ℕ → List ℕ → PlainValue × List ℕ → Type 0
TakesValue id octets x = Takes octets (value_octets x.0) x.1 × HasForm id x.0

text_takes : (id : ℕ) (octets : List ℕ) (x : PlainValue × List ℕ) → id < 0x40 → IsOctets octets → text_at octets ≡ Ok x → TakesValue id octets x
unfolding text_at
text_takes id octets x h fits e =
    let a = bind_ok (sized_at octets) (λ part. cond (is_text part.0) (Ok (Text part.0, part.1)) (Err BadText)) x e in
    let t = sized_takes octets a.0 fits a.1 in
    let g = passed_else (is_text a.0.0) BadText (Ok (Text a.0.0, a.0.1)) x a.2 in
    let made : PlainValue × List ℕ = (Text a.0.0, a.0.1) in
    subst (TakesValue id octets) (ok_is made x g.1) (t.0, (h, t.1, text_passed a.0.0 t.2 g.0))

octets_takes : (id : ℕ) (octets : List ℕ) (x : PlainValue × List ℕ) → 0x40 ≤ id → id < 0x80 → IsOctets octets → octets_at octets ≡ Ok x → TakesValue id octets x
unfolding octets_at
octets_takes id octets x l h fits e =
    let a = bind_ok (sized_at octets) (λ part. Ok (Octets part.0, part.1)) x e in
    let t = sized_takes octets a.0 fits a.1 in
    let made : PlainValue × List ℕ = (Octets a.0.0, a.0.1) in
    subst (TakesValue id octets) (ok_is made x a.2) (t.0, (l, h, t.1))

one_takes : (id : ℕ) (octets : List ℕ) (x : PlainValue × List ℕ) → 0x80 ≤ id → id < 0xC0 → IsOctets octets → one_at octets ≡ Ok x → TakesValue id octets x
unfolding one_at
one_takes id [] x l h fits e = absurd cc
one_takes id (octet ∷ rest) x l h fits e =
    let made : PlainValue × List ℕ = (One octet, rest) in
    subst (TakesValue id (octet ∷ rest)) (ok_is made x e) (record { parts = refl; rest_fits = IsOctets-rest octet rest fits }, (l, h, fits 0))

four_takes : (id : ℕ) (octets : List ℕ) (x : PlainValue × List ℕ) → 0xC0 ≤ id → id < 256 → IsOctets octets → four_at octets ≡ Ok x → TakesValue id octets x
unfolding four_at
four_takes id octets x l h fits e =
    let a = passed (ltb (length octets) 4) BadHeaderLength (Ok (Four (big_number 4 octets), drop 4 octets)) x e in
    let made : PlainValue × List ℕ = (Four (big_number 4 octets), drop 4 octets) in
    subst (TakesValue id octets) (ok_is made x a.1)
    (record { parts = be32_back octets fits (ltb-false _ _ a.0); rest_fits = IsOctets-drop 4 octets fits }, (l, h, big_number_4-lt octets fits))

value_takes : (id : ℕ) (octets : List ℕ) (x : PlainValue × List ℕ) → id < 256 → IsOctets octets → value_at id octets ≡ Ok x → TakesValue id octets x
unfolding value_at
value_takes id octets x h fits e =
    elim (chosen (ltb id 0x40) (text_at octets) _ (Ok x) e) [
      | inl p ↦ text_takes id octets x (ltb-true _ _ p.0) fits p.1
      | inr p ↦ elim (chosen (ltb id 0x80) (octets_at octets) _ (Ok x) p.1) [
        | inl q ↦ octets_takes id octets x (ltb-false _ _ p.0) (ltb-true _ _ q.0) fits q.1
        | inr q ↦ elim (chosen (ltb id 0xC0) (one_at octets) _ (Ok x) q.1) [
          | inl r ↦ one_takes id octets x (ltb-false _ _ q.0) (ltb-true _ _ r.0) fits r.1
          | inr r ↦ four_takes id octets x (ltb-false _ _ r.0) h fits r.1
        ]
      ]
    ]

value_again : (id : ℕ) (value : PlainValue) (rest : List ℕ) → HasForm id value → value_at id (value_octets value ++ rest) ≡ Ok (value, rest)
unfolding value_at text_at octets_at one_at four_at
value_again id (Text octets) rest h =
    let t0 : ltb id 0x40 ≡ true = lt-ltb _ _ h.0 in
    cond-true _ _ _ t0 ∙ ap (λ (r : Result (List ℕ × List ℕ) ObexRefusal). r >>= λ part. cond (is_text part.0) (Ok (Text part.0, part.1)) (Err BadText)) (sized_again octets rest h.1)
    ∙ cond-true _ _ _ (text_passes octets h.2)
value_again id (Octets octets) rest h =
    let t0 : ltb id 0x40 ≡ false = le-ltb _ _ h.0 in
    let t1 : ltb id 0x80 ≡ true = lt-ltb _ _ h.1 in
    cond-false _ _ _ t0 ∙ cond-true _ _ _ t1 ∙ ap (λ (r : Result (List ℕ × List ℕ) ObexRefusal). r >>= λ part. Ok (Octets part.0, part.1)) (sized_again octets rest h.2)
value_again id (One octet) rest h =
    let t0 : ltb id 0x40 ≡ false = le-ltb _ _ (omega (arith, h.0)) in
    let t1 : ltb id 0x80 ≡ false = le-ltb _ _ h.0 in
    let t2 : ltb id 0xC0 ≡ true = lt-ltb _ _ h.1 in
    cond-false _ _ _ t0 ∙ cond-false _ _ _ t1 ∙ cond-true _ _ _ t2
value_again id (Four number) rest h =
    let t0 : ltb id 0x40 ≡ false = le-ltb _ _ (omega (arith, h.0)) in
    let t1 : ltb id 0x80 ≡ false = le-ltb _ _ (omega (arith, h.0)) in
    let t2 : ltb id 0xC0 ≡ false = le-ltb _ _ h.0 in
    let t3 : ltb (length (be32 number ++ rest)) 4 ≡ false = le-ltb _ _ (omega arith) in
    cond-false _ _ _ t0 ∙ cond-false _ _ _ t1 ∙ cond-false _ _ _ t2 ∙ cond-false _ _ _ t3 ∙ ap (λ (n : ℕ). Ok (Four n, rest)) (be32-number number rest h.2)

-- ---- one header

pub header_takes : (octets : List ℕ) (x : PlainHeader × List ℕ) → IsOctets octets → header_at octets ≡ Ok x → Takes octets (header_octets x.0) x.1 × IsHeader x.0
unfolding header_at
header_takes [] x fits e = absurd cc
header_takes (id ∷ octets) x fits e =
    let a = bind_ok (value_at id octets) (λ found. Ok (record { id = id; value = found.0 }, found.1)) x e in
    let t = value_takes id octets a.0 (fits 0) (IsOctets-rest id octets fits) a.1 in
    let made : PlainHeader × List ℕ = (record { id = id; value = a.0.0 }, a.0.1) in
    subst (λ (y : PlainHeader × List ℕ). Takes (id ∷ octets) (header_octets y.0) y.1 × IsHeader y.0) (ok_is made x a.2)
    (record { parts = ap (λ (y : List ℕ). id ∷ y) t.0.parts; rest_fits = t.0.rest_fits }, t.1)

pub header_again : (header : PlainHeader) (rest : List ℕ) → IsHeader header → header_at (header_octets header ++ rest) ≡ Ok (header, rest)
unfolding header_at
header_again header rest h =
    ap (λ (r : Result (PlainValue × List ℕ) ObexRefusal). r >>= λ found. Ok (record { id = header.id; value = found.0 }, found.1)) (value_again header.id header.value rest h)

-- ---- behind a header fewer octets are left

sized_len : (octets : List ℕ) (x : List ℕ × List ℕ) → sized_at octets ≡ Ok x → length x.1 < suc (length octets)
unfolding sized_at
sized_len octets x e =
    let a = passed (ltb (length octets) 2) BadHeaderLength _ x e in
    let b = passed (ltb (big_number 2 octets) 3) BadHeaderLength _ x a.1 in
    let c = passed (ltb (1 + length octets) (big_number 2 octets)) BadHeaderLength _ x b.1 in
    let made : List ℕ × List ℕ = (take (big_number 2 octets - 3) (drop 2 octets), drop (big_number 2 octets - 3) (drop 2 octets)) in
    subst (λ (y : List ℕ × List ℕ). length y.1 < suc (length octets)) (ok_is made x c.1)
    (omega (arith, length-drop (big_number 2 octets - 3) (drop 2 octets), length-drop 2 octets))

text_len : (octets : List ℕ) (x : PlainValue × List ℕ) → text_at octets ≡ Ok x → length x.1 < suc (length octets)
unfolding text_at
text_len octets x e =
    let a = bind_ok (sized_at octets) (λ part. cond (is_text part.0) (Ok (Text part.0, part.1)) (Err BadText)) x e in
    let g = passed_else (is_text a.0.0) BadText (Ok (Text a.0.0, a.0.1)) x a.2 in
    let made : PlainValue × List ℕ = (Text a.0.0, a.0.1) in
    subst (λ (y : PlainValue × List ℕ). length y.1 < suc (length octets)) (ok_is made x g.1) (sized_len octets a.0 a.1)

octets_len : (octets : List ℕ) (x : PlainValue × List ℕ) → octets_at octets ≡ Ok x → length x.1 < suc (length octets)
unfolding octets_at
octets_len octets x e =
    let a = bind_ok (sized_at octets) (λ part. Ok (Octets part.0, part.1)) x e in
    let made : PlainValue × List ℕ = (Octets a.0.0, a.0.1) in
    subst (λ (y : PlainValue × List ℕ). length y.1 < suc (length octets)) (ok_is made x a.2) (sized_len octets a.0 a.1)

one_len : (octets : List ℕ) (x : PlainValue × List ℕ) → one_at octets ≡ Ok x → length x.1 < suc (length octets)
unfolding one_at
one_len [] x e = absurd cc
one_len (octet ∷ rest) x e =
    let made : PlainValue × List ℕ = (One octet, rest) in
    subst (λ (y : PlainValue × List ℕ). length y.1 < suc (suc (length rest))) (ok_is made x e) (omega arith)

four_len : (octets : List ℕ) (x : PlainValue × List ℕ) → four_at octets ≡ Ok x → length x.1 < suc (length octets)
unfolding four_at
four_len octets x e =
    let a = passed (ltb (length octets) 4) BadHeaderLength (Ok (Four (big_number 4 octets), drop 4 octets)) x e in
    let made : PlainValue × List ℕ = (Four (big_number 4 octets), drop 4 octets) in
    subst (λ (y : PlainValue × List ℕ). length y.1 < suc (length octets)) (ok_is made x a.1) (omega (arith, length-drop 4 octets))

value_len : (id : ℕ) (octets : List ℕ) (x : PlainValue × List ℕ) → value_at id octets ≡ Ok x → length x.1 < suc (length octets)
unfolding value_at
value_len id octets x e =
    elim (chosen (ltb id 0x40) (text_at octets) _ (Ok x) e) [
      | inl p ↦ text_len octets x p.1
      | inr p ↦ elim (chosen (ltb id 0x80) (octets_at octets) _ (Ok x) p.1) [
        | inl q ↦ octets_len octets x q.1
        | inr q ↦ elim (chosen (ltb id 0xC0) (one_at octets) _ (Ok x) q.1) [
          | inl r ↦ one_len octets x r.1
          | inr r ↦ four_len octets x r.1
        ]
      ]
    ]

pub header_len : (octets : List ℕ) (x : PlainHeader × List ℕ) → header_at octets ≡ Ok x → length x.1 < length octets
unfolding header_at
header_len [] x e = absurd cc
header_len (id ∷ octets) x e =
    let a = bind_ok (value_at id octets) (λ found. Ok (record { id = id; value = found.0 }, found.1)) x e in
    let made : PlainHeader × List ℕ = (record { id = id; value = a.0.0 }, a.0.1) in
    subst (λ (y : PlainHeader × List ℕ). length y.1 < suc (length octets)) (ok_is made x a.2) (value_len id octets a.0 a.1)

-- ---- one header after the other

-- what was read before, and what is still read
abbrev pub behind : List PlainHeader → Result (List PlainHeader) ObexRefusal → Result (List PlainHeader) ObexRefusal
behind front read = read >>= λ headers. Ok (front ++ headers)

behind_one : (front : List PlainHeader) (header : PlainHeader) (read : Result (List PlainHeader) ObexRefusal) → behind front (read >>= λ others. Ok (header ∷ others)) ≡ behind (front ++ header ∷ []) read
behind_one front header (Ok others) = ap (λ (hs : List PlainHeader). Ok hs) (sym (append_assoc front (header ∷ []) others))
behind_one front header (Err d) = refl

each_more : (n m : ℕ) (octets : List ℕ) (read : Result (PlainHeader × List ℕ) ObexRefusal) → header_at octets ≡ read
    → ((rest : List ℕ) → length rest ≤ n → length rest ≤ m → headers_at n rest ≡ headers_at m rest) → length octets ≤ suc n → length octets ≤ suc m
    → (read >>= λ first. headers_at n first.1 >>= λ others. Ok (first.0 ∷ others)) ≡ (read >>= λ first. headers_at m first.1 >>= λ others. Ok (first.0 ∷ others))
each_more n m octets (Ok x) e same h k =
    let l = header_len octets x e in
    ap (λ (r : Result (List PlainHeader) ObexRefusal). r >>= λ others. Ok (x.0 ∷ others)) (same x.1 (omega arith) (omega arith))
each_more n m octets (Err d) e same h k = refl

-- more steps than there are octets change nothing
headers_more : (n m : ℕ) (octets : List ℕ) → length octets ≤ n → length octets ≤ m → headers_at n octets ≡ headers_at m octets
unfolding headers_at
headers_more n m [] h k = refl
headers_more zero m (octet ∷ octets) h k = absurd (omega arith)
headers_more (suc n) zero (octet ∷ octets) h k = absurd (omega arith)
headers_more (suc n) (suc m) (octet ∷ octets) h k = each_more n m (octet ∷ octets) (header_at (octet ∷ octets)) refl (λ first. headers_more n m first) h k

pub headers_nil : headers_in [] ≡ Ok []
unfolding headers_in headers_at
headers_nil = refl

pub headers_step : (octets : List ℕ) (x : PlainHeader × List ℕ) → header_at octets ≡ Ok x → headers_in octets ≡ (headers_in x.1 >>= λ others. Ok (x.0 ∷ others))
unfolding headers_in headers_at
headers_step [] x e = absurd (let l = header_len [] x e in omega arith)
headers_step (octet ∷ octets) x e =
    let l = header_len (octet ∷ octets) x e in
    ap (λ (r : Result (PlainHeader × List ℕ) ObexRefusal). r >>= λ first. headers_at (length octets) first.1 >>= λ others. Ok (first.0 ∷ others)) e
    ∙ ap (λ (r : Result (List PlainHeader) ObexRefusal). r >>= λ others. Ok (x.0 ∷ others)) (headers_more (length octets) (length x.1) x.1 (omega arith) (omega arith))

pub headers_refused : (octets : List ℕ) (d : ObexRefusal) → 0 < length octets → header_at octets ≡ Err d → headers_in octets ≡ Err d
unfolding headers_in headers_at
headers_refused [] d h e = absurd (omega arith)
headers_refused (octet ∷ octets) d h e =
    ap (λ (r : Result (PlainHeader × List ℕ) ObexRefusal). r >>= λ first. headers_at (length octets) first.1 >>= λ others. Ok (first.0 ∷ others)) e

-- the loop over the headers: one more was read, one was refused, all were read
pub goes_on : (octets : List ℕ) (front : List PlainHeader) (rest : List ℕ) (x : PlainHeader × List ℕ) → headers_in octets ≡ behind front (headers_in rest) → header_at rest ≡ Ok x
    → headers_in octets ≡ behind (front ++ x.0 ∷ []) (headers_in x.1)
goes_on octets front rest x so_far e = so_far ∙ ap (behind front) (headers_step rest x e) ∙ behind_one front x.0 (headers_in x.1)

pub stops : (octets : List ℕ) (front : List PlainHeader) (rest : List ℕ) (d : ObexRefusal) → headers_in octets ≡ behind front (headers_in rest) → 0 < length rest → header_at rest ≡ Err d
    → headers_in octets ≡ Err d
stops octets front rest d so_far h e = so_far ∙ ap (behind front) (headers_refused rest d h e)

pub ends : (octets : List ℕ) (front : List PlainHeader) (rest : List ℕ) → headers_in octets ≡ behind front (headers_in rest) → length rest ≡ 0 → headers_in octets ≡ Ok front
ends octets front rest so_far h =
    so_far ∙ ap (λ (r : List ℕ). behind front (headers_in r)) (nil_from_length rest h) ∙ ap (behind front) headers_nil ∙ ap (λ (hs : List PlainHeader). Ok hs) (append-nil front)

-- ---- all headers

headers_at_takes : (n : ℕ) (octets : List ℕ) (headers : List PlainHeader) → IsOctets octets → headers_at n octets ≡ Ok headers → (octets ≡ headers_octets headers) × AllByRecursion IsHeader headers
unfolding headers_at
headers_at_takes n [] headers fits e = subst (λ (hs : List PlainHeader). ([] ≡ headers_octets hs) × AllByRecursion IsHeader hs) (ok_is [] headers e) (refl, tt)
headers_at_takes zero (octet ∷ octets) headers fits e = absurd cc
headers_at_takes (suc n) (octet ∷ octets) headers fits e =
    let a = bind_ok (header_at (octet ∷ octets)) (λ first. headers_at n first.1 >>= λ others. Ok (first.0 ∷ others)) headers e in
    let b = bind_ok (headers_at n a.0.1) (λ others. Ok (a.0.0 ∷ others)) headers a.2 in
    let first = header_takes (octet ∷ octets) a.0 fits a.1 in
    let others = headers_at_takes n a.0.1 b.0 first.0.rest_fits b.1 in
    subst (λ (hs : List PlainHeader). (octet ∷ octets ≡ headers_octets hs) × AllByRecursion IsHeader hs) (ok_is (a.0.0 ∷ b.0) headers b.2)
    (first.0.parts ∙ ap (λ (r : List ℕ). header_octets a.0.0 ++ r) others.0, (first.1, others.1))

pub headers_take : (octets : List ℕ) (headers : List PlainHeader) → IsOctets octets → headers_in octets ≡ Ok headers → (octets ≡ headers_octets headers) × AllByRecursion IsHeader headers
unfolding headers_in
headers_take octets headers fits e = headers_at_takes (length octets) octets headers fits e

pub headers_again : (headers : List PlainHeader) → AllByRecursion IsHeader headers → headers_in (headers_octets headers) ≡ Ok headers
headers_again [] h = headers_nil
headers_again (header ∷ headers) h =
    headers_step (header_octets header ++ headers_octets headers) (header, headers_octets headers) (header_again header (headers_octets headers) h.0)
    ∙ ap (λ (r : Result (List PlainHeader) ObexRefusal). r >>= λ others. Ok (header ∷ others)) (headers_again headers h.1)

-- ---- what the call answers

pub is_found : {X : Type 0} (view : X → PlainHeader × List ℕ) (octets : List ℕ) (r : Result X ObexRefusal) → IsOctets octets → Gives view r (header_at octets)
    → IfOk r (λ x. IsHeader (view x).0 × (octets ≡ header_octets (view x).0 ++ (view x).1))
is_found view octets (Ok x) fits h = let t = header_takes octets (view x) fits h in (t.1, t.0.parts)
is_found view octets (Err d) fits h = tt

pub is_only : {X : Type 0} (view : X → PlainHeader × List ℕ) (octets : List ℕ) (header : PlainHeader) (rest : List ℕ) (r : Result X ObexRefusal) → IsHeader header → octets ≡ header_octets header ++ rest
    → Gives view r (header_at octets) → IsOkAnd r (λ x. ((view x).0 ≡ header) × ((view x).1 ≡ rest))
is_only view octets header rest (Ok x) h e given =
    let same = ok_is (view x) (header, rest) (sym given ∙ ap header_at e ∙ header_again header rest h) in
    (ap (λ (p : PlainHeader × List ℕ). p.0) same, ap (λ (p : PlainHeader × List ℕ). p.1) same)
is_only view octets header rest (Err d) h e given = absurd (let k = sym given ∙ ap header_at e ∙ header_again header rest h in cc)

-- ---- what is refused

-- whole headers, and behind them octets that begin with none
abbrev pub StopsAt : List ℕ → ObexRefusal → Type 0
StopsAt octets refusal = (front : List PlainHeader) × (rest : List ℕ) × AllByRecursion IsHeader front × (octets ≡ headers_octets front ++ rest) × (0 < length rest) × (header_at rest ≡ Err refusal)

-- a step that failed, or the step behind it did
bind_err : {A B : Type 0} (r : Result A ObexRefusal) (f : A → Result B ObexRefusal) (d : ObexRefusal) → (r >>= f) ≡ Err d → (r ≡ Err d) ⊎ ((x : A) × (r ≡ Ok x) × (f x ≡ Err d))
bind_err (Ok x) f d e = inr (x, refl, e)
bind_err (Err g) f d e = inl cc

not_ok : {A B : Type 0} (x : A) (d : ObexRefusal) → ◌≡◌ {A = Result A ObexRefusal} (Ok x) (Err d) → B
not_ok x d e = absurd cc

stops_at : (n : ℕ) (octets : List ℕ) (refusal : ObexRefusal) → length octets ≤ n → IsOctets octets → headers_at n octets ≡ Err refusal → StopsAt octets refusal
unfolding headers_at
stops_at n [] refusal h fits e = absurd cc
stops_at zero (octet ∷ octets) refusal h fits e = absurd (omega arith)
stops_at (suc n) (octet ∷ octets) refusal h fits e =
    elim (bind_err (header_at (octet ∷ octets)) (λ first. headers_at n first.1 >>= λ others. Ok (first.0 ∷ others)) refusal e) [
      | inl here ↦ ([], octet ∷ octets, tt, refl, omega arith, here)
      | inr a ↦
          let t = header_takes (octet ∷ octets) a.0 fits a.1 in
          let l = header_len (octet ∷ octets) a.0 a.1 in
          elim (bind_err (headers_at n a.0.1) (λ others. Ok (a.0.0 ∷ others)) refusal a.2) [
            | inl later ↦
                let s = stops_at n a.0.1 refusal (omega arith) t.0.rest_fits later in
                (a.0.0 ∷ s.0, s.1, (t.1, s.2), t.0.parts ∙ ap (λ (y : List ℕ). header_octets a.0.0 ++ y) s.3 ∙ sym (append_assoc (header_octets a.0.0) (headers_octets s.0) s.1), s.4, s.5)
            | inr b ↦ absurd (let k = b.2 in cc)
          ]
    ]

pub refused_first : (octets : List ℕ) (refusal : ObexRefusal) → IsOctets octets → headers_in octets ≡ Err refusal → StopsAt octets refusal
unfolding headers_in
refused_first octets refusal fits e = stops_at (length octets) octets refusal (omega arith) fits e

refused_behind : (front : List PlainHeader) (rest : List ℕ) (refusal : ObexRefusal) → AllByRecursion IsHeader front → headers_in rest ≡ Err refusal → headers_in (headers_octets front ++ rest) ≡ Err refusal
refused_behind [] rest refusal h e = e
refused_behind (header ∷ front) rest refusal h e =
    ap headers_in (append_assoc (header_octets header) (headers_octets front) rest)
    ∙ headers_step (header_octets header ++ (headers_octets front ++ rest)) (header, headers_octets front ++ rest) (header_again header (headers_octets front ++ rest) h.0)
    ∙ ap (λ (r : Result (List PlainHeader) ObexRefusal). r >>= λ others. Ok (header ∷ others)) (refused_behind front rest refusal h.1 e)

pub first_refused : (octets : List ℕ) (refusal : ObexRefusal) → StopsAt octets refusal → headers_in octets ≡ Err refusal
first_refused octets refusal s = ap headers_in s.3 ∙ refused_behind s.0 s.1 refusal s.2 (headers_refused s.1 refusal s.4 s.5)
