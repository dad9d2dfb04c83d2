-- The shortest form is a form, and no octets are two elements.
use Rattle.std.proofs.Common.{◌≡◌, ℕ, ◌+◌, ◌*◌, ◌%◌, ◌^◌, ◌<◌, ◌≤◌, Bool, true, false, cond, ltb, leb, eqb, List, [], ◌∷◌, ◌++◌, length, take, refl, sym, ap, subst, ◌∙◌, arith, inl, inr, ◌⊎◌}
use Rattle.std.specs.Prelude.{max, ◌&&◌, ◌==◌, ℤ}
use Rattle.std.specs.Int.{w128, cast_unsigned}
use Rattle.std.specs.Str.{bytes_eq}
use Rattle.std.proofs.Math.Nat.{mod-lt}
use Rattle.std.proofs.lemmas.Bool.{cases_lt, lt-ltb, le-ltb, le-leb, cond-true, cond-false, eqb-true}
use Rattle.std.proofs.lemmas.List.{append-nil, length-append, take_at}
use Rattle.std.proofs.lemmas.Slice.Eq.{bytes_eq-Decides}
use Rattle.bt_base.specs.Octets.{IsOctets}
use Rattle.bt_base.proofs.OctetLemmas.{be32-again}
use Rattle.byteorder.specs.Endian.{big_bytes, big_number, low_bytes, twos_complement}
use Rattle.byteorder.specs.Numbers.{length-bytes_high_first, big_number-reads_back}
use Rattle.sdp_elements.specs.declared.fault.SdpRefusal.TheVariants.{Short}
use Rattle.sdp_elements.specs.declared.header.Kind.{Kind}
use Rattle.sdp_elements.specs.declared.header.Kind.TheVariants as kinds
use Rattle.sdp_elements.specs.Headers.{has_index, length_octets, fixed_len}
use Rattle.sdp_elements.specs.Elements.{PlainValue, Nil, Unsigned, Signed, Uuid, Text, Boolean, Url, PlainElement, Value, Sequence, Alternative, Tree, Leaf, SequenceOf, AlternativeOf, Trees, Finish, Then, element_in, base_end, short_uuid, uuid_in}
use Rattle.sdp_elements.specs.Reading.{tree_at}
use Rattle.sdp_elements.specs.Spelling.{type_number, HasSize, form, IsForm, IsSpelledBy, AreSpelledBy, depth, width_index, numbered, sized, uuid_octets, truth_octet, value_octets, element_octets, Stands, IsWidth, HasSpelling}
use Rattle.sdp_elements.specs.Laws.{ReadsWhatIsSpelled, OneReading, WritesAForm, ReadsAgain, ReadsElementsAgain, IdentifierIsOctets, HasOctets, tree_octets, parts_octets, TreeHasSpelling, PartsHaveSpelling}
use Rattle.sdp_elements.proofs.ReadingLaws.{ok_is}
use Rattle.sdp_elements.proofs.TreeLaws.{tree_takes, tree_again}

-- ---- reading and spelling

pub reads_what_is_spelled : ReadsWhatIsSpelled
reads_what_is_spelled octets rest tree h = (
  λ e. let t = tree_takes Short 8 octets (tree, rest) h e in (t.front, t.spelled, t.within, t.parts),
  λ s. ap (tree_at Short 8) s.3 ∙ tree_again tree Short 8 s.0 rest s.1 s.2,
)

at_left : (a b : ℕ) → a ≤ max a b
at_left a b = omega arith

at_right : (a b : ℕ) → b ≤ max a b
at_right a b = omega arith

same_front : (front front' rest rest' : List ℕ) → front ++ rest ≡ front' ++ rest' → rest ≡ rest' → front ≡ front'
same_front front front' rest rest' e same =
    let len : length front ≡ length front' = omega (arith, ap length e, ap length same, length-append front rest, length-append front' rest') in
    sym (take_at front rest (length front) refl) ∙ ap (take (length front)) e ∙ take_at front' rest' (length front) (sym len)

pub reads_in_one_way : OneReading
reads_in_one_way tree other front front' rest rest' s s' e =
    let levels = max (depth tree) (depth other) in
    let read = tree_again tree Short levels front rest s (at_left (depth tree) (depth other)) in
    let read' = tree_again other Short levels front' rest' s' (at_right (depth tree) (depth other)) in
    let made : Tree × List ℕ = (tree, rest) in
    let made' : Tree × List ℕ = (other, rest') in
    let same = ok_is made made' (sym read ∙ ap (tree_at Short levels) e ∙ read') in
    (ap (λ (x : Tree × List ℕ). x.0) same, same_front front front' rest rest' e (ap (λ (x : Tree × List ℕ). x.1) same))

-- ---- content with its length

sized_form : (kind : Kind) (content : List ℕ) → ((index : ℕ) → 5 ≤ index → has_index kind index ≡ true) → length content < 2 ^ 32 → (index : ℕ) × HasSize kind index (length content) × (sized kind content ≡ form kind index content)
sized_form kind content has fits =
    let n = length content in
    elim (cases_lt n 256) [
      | inl one ↦ (5, record { index_fits = omega arith; has = has 5 (omega arith); len_fits = inr (omega arith, one) }, ap (λ (f : List ℕ). f ++ content) (cond-true (ltb n 256) _ _ (lt-ltb _ _ one)))
      | inr more ↦ elim (cases_lt n 65536) [
        | inl two ↦ (
          6,
          record { index_fits = omega arith; has = has 6 (omega arith); len_fits = inr (omega arith, two) },
          ap (λ (f : List ℕ). f ++ content) (cond-false (ltb n 256) _ _ (le-ltb _ _ more) ∙ cond-true (ltb n 65536) _ _ (lt-ltb _ _ two)),
        )
        | inr four ↦ (
          7,
          record { index_fits = omega arith; has = has 7 (omega arith); len_fits = inr (omega arith, fits) },
          ap (λ (f : List ℕ). f ++ content) (cond-false (ltb n 256) _ _ (le-ltb _ _ more) ∙ cond-false (ltb n 65536) _ _ (le-ltb _ _ four)),
        )
      ]
    ]

pub sized_is_form : (kind : Kind) (content : List ℕ) → ((index : ℕ) → 5 ≤ index → has_index kind index ≡ true) → length content < 2 ^ 32 → IsForm (element_in kind content) (sized kind content)
sized_is_form kind content has fits =
    let s = sized_form kind content has fits in
    record { kind = kind; index = s.0; content = content; size = s.1; element_is = refl; octets_are = s.2 }

from_five : (index : ℕ) → 5 ≤ index → leb 5 index ≡ true
from_five index h = le-leb 5 index h

-- ---- numbers

-- a width of a number and its size index
record Row (width : ℕ) : Type 0 where
  index : ℕ
  is_index : width_index width ≡ index
  below : index < 5
  fixed : 2 ^ index ≡ width
  none : length_octets index ≡ 0
  has : leb index 4 ≡ true
  low : (number : ℕ) → number % 2 ^ (8 * width) < 256 ^ width

low_of : (number m : ℕ) → 0 < m → number % m < m
low_of number m h = mod-lt number h

row : (width : ℕ) → IsWidth width → Row width
row width h =
    elim h [
      | inl e ↦ subst Row (sym e) (record { index = 0; is_index = refl; below = omega arith; fixed = refl; none = refl; has = refl; low = λ n. low_of n (2 ^ 8) (omega arith) })
      | inr h ↦ elim h [
        | inl e ↦ subst Row (sym e) (record { index = 1; is_index = refl; below = omega arith; fixed = refl; none = refl; has = refl; low = λ n. low_of n (2 ^ 16) (omega arith) })
        | inr h ↦ elim h [
          | inl e ↦ subst Row (sym e) (record { index = 2; is_index = refl; below = omega arith; fixed = refl; none = refl; has = refl; low = λ n. low_of n (2 ^ 32) (omega arith) })
          | inr h ↦ elim h [
            | inl e ↦ subst Row (sym e) (record { index = 3; is_index = refl; below = omega arith; fixed = refl; none = refl; has = refl; low = λ n. low_of n (2 ^ 64) (omega arith) })
            | inr e ↦ subst Row (sym e) (record { index = 4; is_index = refl; below = omega arith; fixed = refl; none = refl; has = refl; low = λ n. low_of n (2 ^ 128) (omega arith) })
          ]
        ]
      ]
    ]

number_is_form : (kind : Kind) (width number : ℕ) (element : PlainElement) (r : Row width) → has_index kind r.index ≡ true → fixed_len kind r.index ≡ 2 ^ r.index → element ≡ element_in kind (big_bytes width number)
    → IsForm element (numbered kind width number)
number_is_form kind width number element r has fix is =
    let c = big_bytes width number in
    let below = r.below in
    record {
      kind = kind;
      index = r.index;
      content = c;
      size = record { index_fits = omega arith; has = has; len_fits = inl (r.below, length-bytes_high_first width number ∙ sym r.fixed ∙ sym fix) };
      element_is = is;
      octets_are = ap (λ (i : ℕ). (8 * type_number kind + i) ∷ c) r.is_index ∙ ap (λ (k : ℕ). (8 * type_number kind + r.index) ∷ (big_bytes k (length c) ++ c)) (sym r.none);
    }

read_back : (width number : ℕ) → number < 256 ^ width → big_number width (big_bytes width number) ≡ number
read_back width number fits = ap (big_number width) (sym (append-nil (big_bytes width number))) ∙ big_number-reads_back width number [] fits

unsigned_is_form : (width number : ℕ) → IsWidth width → number < 256 ^ width → IsForm (Value (Unsigned width number)) (numbered kinds.Unsigned width number)
unsigned_is_form width number w fits =
    let r = row width w in
    let c = big_bytes width number in
    number_is_form kinds.Unsigned width number (Value (Unsigned width number)) r r.has refl
    (ap (λ (m : ℕ). Value (Unsigned width m)) (sym (read_back width number fits)) ∙ ap (λ (k : ℕ). Value (Unsigned k (big_number k c))) (sym (length-bytes_high_first width number)))

signed_is_form : (width : ℕ) (number : ℤ) → IsWidth width → twos_complement width (low_bytes w128 width number) ≡ number → IsForm (Value (Signed width number)) (numbered kinds.Signed width (low_bytes w128 width number))
signed_is_form width number w fits =
    let r = row width w in
    let low = low_bytes w128 width number in
    let c = big_bytes width low in
    number_is_form kinds.Signed width low (Value (Signed width number)) r r.has refl
    (ap (λ (z : ℤ). Value (Signed width z)) (sym fits)
    ∙ ap (λ (m : ℕ). Value (Signed width (twos_complement width m))) (sym (read_back width low (r.low (cast_unsigned w128 number))))
    ∙ ap (λ (k : ℕ). Value (Signed k (twos_complement k (big_number k c)))) (sym (length-bytes_high_first width low)))

-- ---- identifiers

half_again : (c d : ℕ) → c < 256 → d < 256 → big_bytes 4 (big_number 2 (c ∷ d ∷ [])) ≡ 0 ∷ 0 ∷ c ∷ d ∷ []
half_again c d h k =
    let same : big_number 2 (c ∷ d ∷ []) ≡ big_number 4 (0 ∷ 0 ∷ c ∷ d ∷ []) = omega arith in
    ap (big_bytes 4) same ∙ be32-again 0 0 c d [] (omega arith) (omega arith) h k

bytes_eq-true : (xs ys : List ℕ) → bytes_eq xs ys ≡ true → xs ≡ ys
bytes_eq-true xs ys e = (bytes_eq-Decides xs ys).0 e

-- which side a test takes
either : (b : Bool) → (b ≡ true) ⊎ (b ≡ false)
either true = inl refl
either false = inr refl

whole_uuid : (octets : List ℕ) → length octets ≡ 16 → uuid_in octets ≡ octets
whole_uuid octets len = cond-true (eqb (length octets) 16) octets _ (ap (λ (n : ℕ). eqb n 16) len)

short_is_form : (a b c d : ℕ) (rest : List ℕ) → IsOctets (a ∷ b ∷ c ∷ d ∷ rest) → rest ≡ base_end → (test : Bool) → (test ≡ true → (a ≡ 0) × (b ≡ 0))
    → IsForm (Value (Uuid (a ∷ b ∷ c ∷ d ∷ rest))) (cond test (0x19 ∷ c ∷ d ∷ []) (0x1A ∷ a ∷ b ∷ c ∷ d ∷ []))
short_is_form a b c d rest h base true zeros =
    let z = zeros refl in
    let same : a ∷ b ∷ c ∷ d ∷ rest ≡ short_uuid (big_number 2 (c ∷ d ∷ [])) =
    ap (λ (x : ℕ). x ∷ b ∷ c ∷ d ∷ rest) z.0 ∙ ap (λ (x : ℕ). 0 ∷ x ∷ c ∷ d ∷ rest) z.1 ∙ ap (λ (y : List ℕ). 0 ∷ 0 ∷ c ∷ d ∷ y) base ∙ ap (λ (y : List ℕ). y ++ base_end) (sym (half_again c d (h 2) (h 3))) in
    record {
      kind = kinds.Uuid;
      index = 1;
      content = c ∷ d ∷ [];
      size = record { index_fits = omega arith; has = refl; len_fits = inl (omega arith, refl) };
      element_is = ap (λ (y : List ℕ). Value (Uuid y)) same;
      octets_are = refl;
    }
short_is_form a b c d rest h base false zeros =
    let same : a ∷ b ∷ c ∷ d ∷ rest ≡ short_uuid (big_number 4 (a ∷ b ∷ c ∷ d ∷ [])) =
    ap (λ (y : List ℕ). a ∷ b ∷ c ∷ d ∷ y) base ∙ ap (λ (y : List ℕ). y ++ base_end) (sym (be32-again a b c d [] (h 0) (h 1) (h 2) (h 3))) in
    record {
      kind = kinds.Uuid;
      index = 2;
      content = a ∷ b ∷ c ∷ d ∷ [];
      size = record { index_fits = omega arith; has = refl; len_fits = inl (omega arith, refl) };
      element_is = ap (λ (y : List ℕ). Value (Uuid y)) same;
      octets_are = refl;
    }

full_is_form : (octets : List ℕ) → length octets ≡ 16 → IsForm (Value (Uuid octets)) (0x1C ∷ octets)
full_is_form octets len = record {
  kind = kinds.Uuid;
  index = 4;
  content = octets;
  size = record { index_fits = omega arith; has = refl; len_fits = inl (omega arith, len) };
  element_is = ap (λ (y : List ℕ). Value (Uuid y)) (sym (whole_uuid octets len));
  octets_are = refl;
}

both : (p q : Bool) → (p && q) ≡ true → (p ≡ true) × (q ≡ true)
both true q e = (refl, e)
both false q e = absurd cc

zeros_of : (a b : ℕ) → ((a == 0) && (b == 0)) ≡ true → (a ≡ 0) × (b ≡ 0)
zeros_of a b e = let zeros = both (a == 0) (b == 0) e in (eqb-true a 0 zeros.0, eqb-true b 0 zeros.1)

uuid_is_form : (octets : List ℕ) → length octets ≡ 16 → IsOctets octets → IsForm (Value (Uuid octets)) (uuid_octets octets)
uuid_is_form [] len h = absurd (omega arith)
uuid_is_form (a ∷ []) len h = absurd (omega arith)
uuid_is_form (a ∷ b ∷ []) len h = absurd (omega arith)
uuid_is_form (a ∷ b ∷ c ∷ []) len h = absurd (omega arith)
uuid_is_form (a ∷ b ∷ c ∷ d ∷ rest) len h =
    let octets = a ∷ b ∷ c ∷ d ∷ rest in
    elim (either (bytes_eq rest base_end)) [
      | inl same ↦ subst (IsForm (Value (Uuid octets))) (sym (cond-true (bytes_eq rest base_end) _ _ same))
          (short_is_form a b c d rest h (bytes_eq-true rest base_end same) ((a == 0) && (b == 0)) (zeros_of a b))
      | inr other ↦ subst (IsForm (Value (Uuid octets))) (sym (cond-false (bytes_eq rest base_end) _ _ other)) (full_is_form octets len)
    ]

-- ---- all values

boolean_is_form : (truth : Bool) → IsForm (Value (Boolean truth)) (0x28 ∷ truth_octet truth ∷ [])
boolean_is_form true = record { kind = kinds.Boolean; index = 0; content = 1 ∷ []; size = record { index_fits = omega arith; has = refl; len_fits = inl (omega arith, refl) }; element_is = refl; octets_are = refl }
boolean_is_form false = record { kind = kinds.Boolean; index = 0; content = 0 ∷ []; size = record { index_fits = omega arith; has = refl; len_fits = inl (omega arith, refl) }; element_is = refl; octets_are = refl }

value_is_form : (value : PlainValue) → HasSpelling (Value value) → HasOctets value → IsForm (Value value) (value_octets value)
value_is_form Nil h o = record { kind = kinds.Nil; index = 0; content = []; size = record { index_fits = omega arith; has = refl; len_fits = inl (omega arith, refl) }; element_is = refl; octets_are = refl }
value_is_form (Unsigned width number) h o = unsigned_is_form width number h.0 h.1
value_is_form (Signed width number) h o = signed_is_form width number h.0 h.1
value_is_form (Uuid octets) h o = uuid_is_form octets h o
value_is_form (Text octets) h o = sized_is_form kinds.Text octets from_five h
value_is_form (Boolean truth) h o = boolean_is_form truth
value_is_form (Url octets) h o = sized_is_form kinds.Url octets from_five h

pub writes_a_form : WritesAForm
writes_a_form = record {
  value = value_is_form;
  sequence = λ content h. sized_is_form kinds.Sequence content from_five h;
  alternative = λ content h. sized_is_form kinds.Alternative content from_five h;
}

-- ---- trees

mutual
  tree_is_spelled : (tree : Tree) → TreeHasSpelling tree → IsSpelledBy tree (tree_octets tree)
  tree_is_spelled (Leaf value) h = value_is_form value h.0 h.1
  tree_is_spelled (SequenceOf parts) h = (parts_octets parts, sized_is_form kinds.Sequence (parts_octets parts) from_five h.0, parts_are_spelled parts h.1)
  tree_is_spelled (AlternativeOf parts) h = (parts_octets parts, sized_is_form kinds.Alternative (parts_octets parts) from_five h.0, parts_are_spelled parts h.1)

  parts_are_spelled : (parts : Trees) → PartsHaveSpelling parts → AreSpelledBy parts (parts_octets parts)
  parts_are_spelled Finish h = refl
  parts_are_spelled (Then first others) h = (tree_octets first, parts_octets others, refl, tree_is_spelled first h.0, parts_are_spelled others h.1)

pub reads_again : ReadsAgain
reads_again tree rest h d = tree_again tree Short 8 (tree_octets tree) rest (tree_is_spelled tree h) d

-- the form that is written spells what the element stands for
written_spells : (element : PlainElement) (tree : Tree) → HasSpelling element → IdentifierIsOctets element → Stands element tree → IsSpelledBy tree (element_octets element)
written_spells (Value value) tree spelling fits stands = subst (λ t. IsSpelledBy t (element_octets (Value value))) (sym stands) (writes_a_form.value value spelling fits)
written_spells (Sequence content) tree spelling fits (parts, stands, spelled) =
    subst (λ t. IsSpelledBy t (element_octets (Sequence content))) (sym stands) (content, writes_a_form.sequence content spelling, spelled)
written_spells (Alternative content) tree spelling fits (parts, stands, spelled) =
    subst (λ t. IsSpelledBy t (element_octets (Alternative content))) (sym stands) (content, writes_a_form.alternative content spelling, spelled)

pub reads_elements_again : ReadsElementsAgain
reads_elements_again element tree rest spelling fits stands levels octets =
    (reads_what_is_spelled (element_octets element ++ rest) rest tree octets).1 (element_octets element, written_spells element tree spelling fits stands, levels, refl)
