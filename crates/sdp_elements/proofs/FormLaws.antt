-- One element, without a look at its parts: what is read is a form of it, and each form is read.
use Rattle.std.proofs.Common.{◌≡◌, ℕ, zero, suc, ◌+◌, ◌*◌, ◌/◌, ◌%◌, ◌^◌, ◌<◌, ◌≤◌, Bool, true, false, cond, ltb, eqb, List, [], ◌∷◌, ◌++◌, length, take, drop, Option, Some, None, Result, Ok, Err, refl, sym, ap, subst, ◌∙◌, append_assoc, arith, inl, inr, ◌⊎◌}
use Rattle.std.specs.Prelude.{◌&&◌, ◌==◌}
use Rattle.std.proofs.lemmas.Bool.{cases_lt, ltb-false, lt-ltb, le-ltb, cond-true, cond-false}
use Rattle.std.proofs.lemmas.Bool.Decides.{nat_tests}
use Rattle.std.proofs.lemmas.List.{length-append, length-drop, length-take, take-append-drop, take_at, drop_at, drop-drop, get_or-drop, get_or-take, get_or_past}
use Rattle.bt_base.specs.Octets.{IsOctets}
use Rattle.bt_base.proofs.OctetLemmas.{be16-front, be32-front}
use Rattle.byteorder.specs.Endian.{big_bytes, big_number}
use Rattle.byteorder.specs.Numbers.{length-bytes_high_first, big_number-reads_back, big_from-lt}
use Rattle.sdp_elements.specs.declared.fault.SdpRefusal.{SdpRefusal}
use Rattle.sdp_elements.specs.declared.fault.SdpRefusal.TheVariants.{TooDeep}
use Rattle.sdp_elements.specs.declared.header.Kind.{Kind}
use Rattle.sdp_elements.specs.declared.header.Kind.TheVariants as kinds
use Rattle.sdp_elements.specs.Headers.{kind_at, has_index, size_fault, with_index, header_at, length_octets, fixed_len, content_len}
use Rattle.sdp_elements.specs.Elements.{PlainElement, element_in, content_of}
use Rattle.sdp_elements.specs.Reading.{◌>>=◌, is_holder, content_at, behind_header, front_at, IsWithin}
use Rattle.sdp_elements.specs.Spelling.{type_number, HasSize, form, IsForm}
use Rattle.sdp_elements.proofs.ReadingLaws.{bind_ok, passed, ok_is}

pub IsOctets-drop : (n : ℕ) (octets : List ℕ) → IsOctets octets → IsOctets (drop n octets)
IsOctets-drop n octets h i = rw get_or-drop (h (n + i))

pub IsOctets-take : (n : ℕ) (octets : List ℕ) → IsOctets octets → IsOctets (take n octets)
IsOctets-take n octets h i =
    elim (cases_lt i n) [
      | inl lt ↦ rw (get_or-take n octets i 0 lt) (h i)
      | inr le ↦ rw (get_or_past (take n octets) i 0 (omega (arith, length-take n octets))) (omega arith)
    ]

-- ---- headers

some_is : (k kind : Kind) → Some k ≡ Some kind → type_number k ≡ type_number kind
some_is k kind e = ap type_number cc

kind_number : (number : ℕ) (kind : Kind) → kind_at number ≡ Some kind → number ≡ type_number kind
kind_number zero kind e = some_is kinds.Nil kind e
kind_number (suc zero) kind e = some_is kinds.Unsigned kind e
kind_number (suc (suc zero)) kind e = some_is kinds.Signed kind e
kind_number (suc (suc (suc zero))) kind e = some_is kinds.Uuid kind e
kind_number (suc (suc (suc (suc zero)))) kind e = some_is kinds.Text kind e
kind_number (suc (suc (suc (suc (suc zero))))) kind e = some_is kinds.Boolean kind e
kind_number (suc (suc (suc (suc (suc (suc zero)))))) kind e = some_is kinds.Sequence kind e
kind_number (suc (suc (suc (suc (suc (suc (suc zero))))))) kind e = some_is kinds.Alternative kind e
kind_number (suc (suc (suc (suc (suc (suc (suc (suc zero)))))))) kind e = some_is kinds.Url kind e
kind_number (suc (suc (suc (suc (suc (suc (suc (suc (suc n))))))))) kind e = absurd (grind (arith, nat_tests))

kind_again : (kind : Kind) → kind_at (type_number kind) ≡ Some kind
kind_again kinds.Nil = refl
kind_again kinds.Unsigned = refl
kind_again kinds.Signed = refl
kind_again kinds.Uuid = refl
kind_again kinds.Text = refl
kind_again kinds.Boolean = refl
kind_again kinds.Sequence = refl
kind_again kinds.Alternative = refl
kind_again kinds.Url = refl

-- a test that did not refuse
passed_if : {A : Type 0} (b : Bool) (d : SdpRefusal) (r : Result A SdpRefusal) (y : A) → cond b r (Err d) ≡ Ok y → (b ≡ true) × (r ≡ Ok y)
passed_if true d r y e = (refl, e)
passed_if false d r y e = absurd cc

index_takes : (found : Option Kind) (index : ℕ) (kind : Kind) → with_index found index ≡ Ok kind → (found ≡ Some kind) × (has_index kind index ≡ true)
index_takes None index kind e = absurd cc
index_takes (Some k) index kind e =
    let a = passed_if (has_index k index) (size_fault k) (Ok k) kind e in
    let same = ok_is k kind a.1 in
    (ap Some same, subst (λ (k' : Kind). has_index k' index ≡ true) same a.0)

header_takes : (octet : ℕ) (kind : Kind) → header_at octet ≡ Ok kind → (octet ≡ 8 * type_number kind + octet % 8) × (has_index kind (octet % 8) ≡ true)
header_takes octet kind e =
    let a = index_takes (kind_at (octet / 8)) (octet % 8) kind e in
    let number = kind_number (octet / 8) kind a.0 in
    (omega arith, a.1)

header_again : (kind : Kind) (index : ℕ) → index < 8 → has_index kind index ≡ true → header_at (8 * type_number kind + index) ≡ Ok kind
header_again kind index fits has =
    let number : (8 * type_number kind + index) / 8 ≡ type_number kind = omega arith in
    let rest : (8 * type_number kind + index) % 8 ≡ index = omega arith in
    ap (λ (n : ℕ). with_index (kind_at n) ((8 * type_number kind + index) % 8)) number ∙ ap (with_index (kind_at (type_number kind))) rest ∙ ap (λ (found : Option Kind). with_index found index) (kind_again kind)
    ∙ cond-true (has_index kind index) (Ok kind) (Err (size_fault kind)) has

-- ---- lengths

-- the length that the octets behind the header state
record States (kind : Kind) (index : ℕ) (octets : List ℕ) : Type 0 where
  fits : ((index < 5) × (content_len kind index octets ≡ fixed_len kind index)) ⊎ ((5 ≤ index) × (content_len kind index octets < 256 ^ length_octets index))
  front : big_bytes (length_octets index) (content_len kind index octets) ≡ take (length_octets index) octets

one_again : (octets : List ℕ) → IsOctets octets → 1 ≤ length octets → big_bytes 1 (big_number 1 octets) ≡ take 1 octets
one_again [] h l = absurd (omega arith)
one_again (a ∷ rest) h l =
    let octet : a < 256 = h 0 in
    let same : (a * 1 + 0) % 256 ≡ a = omega arith in
    ap (λ (x : ℕ). x ∷ []) same

states : (kind : Kind) (index : ℕ) (octets : List ℕ) → index < 8 → IsOctets octets → length_octets index ≤ length octets → States kind index octets
states kind zero octets i h l = record { fits = inl (omega arith, refl); front = refl }
states kind (suc zero) octets i h l = record { fits = inl (omega arith, refl); front = refl }
states kind (suc (suc zero)) octets i h l = record { fits = inl (omega arith, refl); front = refl }
states kind (suc (suc (suc zero))) octets i h l = record { fits = inl (omega arith, refl); front = refl }
states kind (suc (suc (suc (suc zero)))) octets i h l = record { fits = inl (omega arith, refl); front = refl }
states kind (suc (suc (suc (suc (suc zero))))) octets i h l = record { fits = inr (omega arith, big_from-lt 0 1 octets h); front = one_again octets h l }
states kind (suc (suc (suc (suc (suc (suc zero)))))) octets i h l = record { fits = inr (omega arith, big_from-lt 0 2 octets h); front = be16-front octets h l }
states kind (suc (suc (suc (suc (suc (suc (suc zero))))))) octets i h l = record { fits = inr (omega arith, big_from-lt 0 4 octets h); front = be32-front octets h l }
states kind (suc (suc (suc (suc (suc (suc (suc (suc n)))))))) octets i h l = absurd (omega arith)

-- ---- content

record TakesContent (kind : Kind) (index : ℕ) (octets content rest : List ℕ) : Type 0 where
  size : HasSize kind index (length content)
  parts : octets ≡ (big_bytes (length_octets index) (length content) ++ content) ++ rest
  content_fits : IsOctets content
  rest_fits : IsOctets rest

content_takes : (past : SdpRefusal) (kind : Kind) (index : ℕ) (octets : List ℕ) (x : List ℕ × List ℕ) → index < 8 → has_index kind index ≡ true → IsOctets octets → content_at past kind index octets ≡ Ok x → TakesContent kind index octets x.0 x.1
unfolding content_at
content_takes past kind index octets x i has h e =
    let w = length_octets index in
    let n = content_len kind index octets in
    let d = drop w octets in
    let a = passed (ltb (length octets) (w + n)) past _ x e in
    let long : w + n ≤ length octets = ltb-false _ _ a.0 in
    let s = states kind index octets i h (omega arith) in
    let len : length (take n d) ≡ n = omega (arith, length-take n d, length-drop w octets) in
    let split : octets ≡ take w octets ++ (take n d ++ drop n d) = sym (take-append-drop w octets) ∙ ap (λ (y : List ℕ). take w octets ++ y) (sym (take-append-drop n d)) in
    let rest : drop n d ≡ drop (w + n) octets = drop-drop n w octets in
    let front : take w octets ≡ big_bytes w (length (take n d)) = sym s.front ∙ ap (big_bytes w) (sym len) in
    let made : List ℕ × List ℕ = (take n d, drop (w + n) octets) in
    subst (λ (y : List ℕ × List ℕ). TakesContent kind index octets y.0 y.1) (ok_is made x a.1)
    (record {
      size = record { index_fits = i; has = has; len_fits = subst (λ (m : ℕ). ((index < 5) × (m ≡ fixed_len kind index)) ⊎ ((5 ≤ index) × (m < 256 ^ length_octets index))) (sym len) s.fits };
      parts = split ∙ ap (λ (y : List ℕ). y ++ (take n d ++ drop n d)) front ∙ ap (λ (y : List ℕ). big_bytes w (length (take n d)) ++ (take n d ++ y)) rest ∙ sym (append_assoc (big_bytes w (length (take n d))) (take n d) (drop (w + n) octets));
      content_fits = IsOctets-take n d (IsOctets-drop w octets h);
      rest_fits = IsOctets-drop (w + n) octets h;
    })

stated_again : (kind : Kind) (index : ℕ) (content rest : List ℕ) → HasSize kind index (length content) → content_len kind index (big_bytes (length_octets index) (length content) ++ rest) ≡ length content
stated_again kind index content rest size =
    elim size.len_fits [
      | inl fixed ↦ cond-true (ltb index 5) _ _ (lt-ltb _ _ fixed.0) ∙ sym fixed.1
      | inr stated ↦ cond-false (ltb index 5) _ _ (le-ltb _ _ stated.0) ∙ big_number-reads_back (length_octets index) (length content) rest stated.1
    ]

content_again : (past : SdpRefusal) (kind : Kind) (index : ℕ) (content rest : List ℕ) → HasSize kind index (length content)
    → content_at past kind index ((big_bytes (length_octets index) (length content) ++ content) ++ rest) ≡ Ok (content, rest)
unfolding content_at
content_again past kind index content rest size =
    let w = length_octets index in
    let n = length content in
    let front = big_bytes w n in
    let octets = (front ++ content) ++ rest in
    let apart : octets ≡ front ++ (content ++ rest) = append_assoc front content rest in
    let stated : content_len kind index octets ≡ n = ap (content_len kind index) apart ∙ stated_again kind index content (content ++ rest) size in
    let front_len : length front ≡ w = length-bytes_high_first w n in
    let len : length (front ++ content) ≡ w + n = omega (arith, length-append front content) in
    let long : ltb (length octets) (w + n) ≡ false = le-ltb _ _ (omega (arith, length-append (front ++ content) rest)) in
    let behind : drop w octets ≡ content ++ rest = ap (drop w) apart ∙ drop_at front (content ++ rest) w front_len in
    ap (λ (m : ℕ). cond (ltb (length octets) (w + m)) (Err past) (Ok (take m (drop w octets), drop (w + m) octets))) stated
    ∙ cond-false (ltb (length octets) (w + n)) _ _ long
    ∙ ap (λ (y : List ℕ). Ok (take n y, drop (w + n) octets)) behind
    ∙ ap (λ (y : List ℕ). Ok (y, drop (w + n) octets)) (take_at content rest n refl)
    ∙ ap (λ (y : List ℕ). Ok (content, y)) (drop_at (front ++ content) rest (w + n) len)

-- ---- the front

-- what was read from the front is a form of it
pub record TakesFront (octets : List ℕ) (element : PlainElement) (rest : List ℕ) : Type 0 where
  pub front : List ℕ
  pub parts : octets ≡ front ++ rest
  pub is_form : IsForm element front
  pub content_fits : IsOctets (content_of element)
  pub rest_fits : IsOctets rest

content_of-fits : (kind : Kind) (content : List ℕ) → IsOctets content → IsOctets (content_of (element_in kind content))
content_of-fits kinds.Nil content h = λ i. omega arith
content_of-fits kinds.Unsigned content h = λ i. omega arith
content_of-fits kinds.Signed content h = λ i. omega arith
content_of-fits kinds.Uuid content h = λ i. omega arith
content_of-fits kinds.Text content h = λ i. omega arith
content_of-fits kinds.Boolean content h = λ i. omega arith
content_of-fits kinds.Sequence content h = h
content_of-fits kinds.Alternative content h = h
content_of-fits kinds.Url content h = λ i. omega arith

behind_takes : (past : SdpRefusal) (levels : ℕ) (kind : Kind) (octet : ℕ) (octets : List ℕ) (x : PlainElement × List ℕ) → (octet ≡ 8 * type_number kind + octet % 8) × (has_index kind (octet % 8) ≡ true) → IsOctets octets
    → behind_header past levels kind (octet % 8) octets ≡ Ok x → TakesFront (octet ∷ octets) x.0 x.1
unfolding behind_header
behind_takes past levels kind octet octets x header h e =
    let index = octet % 8 in
    let index_fits : index < 8 = omega arith in
    let a = passed _ TooDeep _ x e in
    let b = bind_ok (content_at past kind index octets) (λ found. Ok (element_in kind found.0, found.1)) x a.1 in
    let t = content_takes past kind index octets b.0 index_fits header.1 h b.1 in
    let made : PlainElement × List ℕ = (element_in kind b.0.0, b.0.1) in
    subst (λ (y : PlainElement × List ℕ). TakesFront (octet ∷ octets) y.0 y.1) (ok_is made x b.2)
    (record {
      front = form kind index b.0.0;
      parts = ap (λ (o : ℕ). o ∷ octets) header.0 ∙ ap (λ (y : List ℕ). (8 * type_number kind + index) ∷ y) t.parts;
      is_form = record { kind = kind; index = index; content = b.0.0; size = t.size; element_is = refl; octets_are = refl };
      content_fits = content_of-fits kind b.0.0 t.content_fits;
      rest_fits = t.rest_fits;
    })

pub front_takes : (past : SdpRefusal) (levels : ℕ) (octets : List ℕ) (x : PlainElement × List ℕ) → IsOctets octets → front_at past levels octets ≡ Ok x → TakesFront octets x.0 x.1
unfolding front_at
front_takes past levels [] x h e = absurd cc
front_takes past levels (octet ∷ octets) x h e =
    let a = bind_ok (header_at octet) (λ kind. behind_header past levels kind (octet % 8) octets) x e in
    behind_takes past levels a.0 octet octets x (header_takes octet a.0 a.1) (λ i. h (suc i)) a.2

positive : (levels : ℕ) → 0 < levels → eqb levels 0 ≡ false
positive levels h = grind (arith, nat_tests)

let_in : (kind : Kind) (levels : ℕ) (content : List ℕ) → IsWithin levels (element_in kind content) → (is_holder kind && (levels == 0)) ≡ false
let_in kinds.Nil levels content w = refl
let_in kinds.Unsigned levels content w = refl
let_in kinds.Signed levels content w = refl
let_in kinds.Uuid levels content w = refl
let_in kinds.Text levels content w = refl
let_in kinds.Boolean levels content w = refl
let_in kinds.Sequence levels content w = positive levels w
let_in kinds.Alternative levels content w = positive levels w
let_in kinds.Url levels content w = refl

behind_again : (past : SdpRefusal) (levels : ℕ) (kind : Kind) (index : ℕ) (content rest : List ℕ) → HasSize kind index (length content) → IsWithin levels (element_in kind content)
    → behind_header past levels kind index ((big_bytes (length_octets index) (length content) ++ content) ++ rest) ≡ Ok (element_in kind content, rest)
unfolding behind_header
behind_again past levels kind index content rest size w =
    cond-false (is_holder kind && (levels == 0)) _ _ (let_in kind levels content w)
    ∙ ap (λ (r : Result (List ℕ × List ℕ) SdpRefusal). r >>= λ found. Ok (element_in kind found.0, found.1)) (content_again past kind index content rest size)

form_again : (past : SdpRefusal) (levels : ℕ) (kind : Kind) (index : ℕ) (content rest : List ℕ) → HasSize kind index (length content) → IsWithin levels (element_in kind content)
    → front_at past levels (form kind index content ++ rest) ≡ Ok (element_in kind content, rest)
unfolding front_at
form_again past levels kind index content rest size w =
    let octet = 8 * type_number kind + index in
    let octets = (big_bytes (length_octets index) (length content) ++ content) ++ rest in
    let fits = size.index_fits in
    let low : octet % 8 ≡ index = omega arith in
    ap (λ (r : Result Kind SdpRefusal). r >>= λ k. behind_header past levels k (octet % 8) octets) (header_again kind index size.index_fits size.has)
    ∙ ap (λ (i : ℕ). behind_header past levels kind i octets) low ∙ behind_again past levels kind index content rest size w

-- each form is read
pub front_again : (past : SdpRefusal) (levels : ℕ) (element : PlainElement) (front rest : List ℕ) → IsForm element front → IsWithin levels element → front_at past levels (front ++ rest) ≡ Ok (element, rest)
front_again past levels element front rest f w =
    let done : PlainElement → Result (PlainElement × List ℕ) SdpRefusal = λ e. Ok (e, rest) in
    ap (λ (y : List ℕ). front_at past levels (y ++ rest)) f.octets_are ∙ form_again past levels f.kind f.index f.content rest f.size (subst (IsWithin levels) f.element_is w) ∙ ap done (sym f.element_is)
