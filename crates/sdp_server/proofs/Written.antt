-- Requests again from their shortest form.
use Rattle.std.proofs.Common.{◌≡◌, ℕ, ◌+◌, ◌*◌, ◌/◌, ◌%◌, ◌^◌, ◌<◌, ◌≤◌, Bool, true, false, cond, List, [], ◌∷◌, ◌++◌, length, take, drop, Option, Some, None, refl, sym, ap, subst, ◌∙◌, arith, inl, inr}
use Rattle.std.specs.Prelude.{◌&&◌, ◌==◌, nat_le, nat_lt, map, slice_index}
use Rattle.std.specs.List.{AllByRecursion}
use Rattle.std.specs.Str.{bytes_eq}
use Rattle.std.proofs.lemmas.Bool.{le-leb, lt-ltb, cond-true, cond-false}
use Rattle.std.proofs.lemmas.Bool.Decides.{eqb_tells}
use Rattle.std.proofs.lemmas.List.{length-append, length-take}
use Rattle.bt_base.specs.Octets.{be16, be32}
use Rattle.bt_base.proofs.OctetLemmas.{be16-number, be32-number}
use Rattle.byteorder.specs.Endian.{big_number}
use Rattle.sdp_elements.specs.Answers.{Range}
use Rattle.sdp_elements.specs.Elements.{Tree, Trees, base_end}
use Rattle.sdp_elements.specs.Laws.{tree_octets, parts_octets, TreeHasSpelling, PartsHaveSpelling}
use Rattle.sdp_elements.specs.Optional.{◌>>=◌}
use Rattle.sdp_elements.specs.Questions.{uuid_tree, pattern_octets, range_tree, ranges_octets, handles_parameters, attributes_parameters, search_parameters}
use Rattle.sdp_elements.specs.Records.{parts_of, sequence_of, unsigned}
use Rattle.sdp_elements.specs.Sequences.{sequence_at, collected}
use Rattle.sdp_elements.specs.Spelling.{depth, parts_depth}
use Rattle.sdp_elements.proofs.PduLaws.{both_true, continuation_again}
use Rattle.sdp_elements.proofs.SequenceLaws.{sequence_read}
use Rattle.sdp_elements.proofs.SpellingLaws.{reads_again}
use Rattle.sdp_server.specs.Laws.{IsUuid, IsPattern, IsRange, AreRanges, ReadsAgain}
use Rattle.sdp_server.specs.Requests.{uuid_of, is_some_identifiers, pattern_at, range_of, ranges_at, number_at}
use Rattle.sdp_server.proofs.Reading.{handles_found, attributes_found, search_found}

-- ---- a sequence of simple elements

-- a member as an element: it is read again, it has a spelling, and it is short
record IsPart {A : Type 0} (what : Tree → Option A) (x : A) (tree : Tree) : Type 0 where
  read : what tree ≡ Some x
  spelling : TreeHasSpelling tree
  simple : depth tree ≡ 0
  short : length (tree_octets tree) ≤ 17

abbrev AreParts : {A : Type 0} → (Tree → Option A) → (A → Tree) → List A → Type 0
AreParts what made xs = AllByRecursion (λ x. IsPart what x (made x)) xs

collected_again : {A : Type 0} (what : Tree → Option A) (made : A → Tree) (xs : List A) → AreParts what made xs → collected what (parts_of (map made xs)) ≡ Some xs
collected_again what made [] h = refl
collected_again {A} what made (x ∷ xs) h =
    ap (λ (o : Option A). o >>= λ found. collected what (parts_of (map made xs)) >>= λ more. Some (found ∷ more)) h.0.read
    ∙ ap (λ (o : Option (List A)). o >>= λ more. Some (x ∷ more)) (collected_again what made xs h.1)

have_spelling : {A : Type 0} (what : Tree → Option A) (made : A → Tree) (xs : List A) → AreParts what made xs → PartsHaveSpelling (parts_of (map made xs))
have_spelling what made [] h = tt
have_spelling what made (x ∷ xs) h = (h.0.spelling, have_spelling what made xs h.1)

are_simple : {A : Type 0} (what : Tree → Option A) (made : A → Tree) (xs : List A) → AreParts what made xs → parts_depth (parts_of (map made xs)) ≡ 0
are_simple what made [] h = refl
are_simple what made (x ∷ xs) h = let first = h.0.simple in let others = are_simple what made xs h.1 in omega arith

are_short : {A : Type 0} (what : Tree → Option A) (made : A → Tree) (xs : List A) → AreParts what made xs → length (parts_octets (parts_of (map made xs))) ≤ 17 * length xs
are_short what made [] h = omega arith
are_short what made (x ∷ xs) h =
    let first = h.0.short in
    let others = are_short what made xs h.1 in
    omega (arith, length-append (tree_octets (made x)) (parts_octets (parts_of (map made xs))))

sequence_again : {A : Type 0} (what : Tree → Option A) (made : A → Tree) (xs : List A) (rest : List ℕ) → AreParts what made xs → length xs < 2 ^ 16
    → sequence_at (tree_octets (sequence_of (map made xs)) ++ rest) ≡ Some (parts_of (map made xs), rest)
sequence_again what made xs rest h few =
    let parts = parts_of (map made xs) in
    let short = are_short what made xs h in
    let simple = are_simple what made xs h in
    let size : length (parts_octets parts) < 2 ^ 32 = omega arith in
    sequence_read (tree_octets (sequence_of (map made xs)) ++ rest) rest parts (reads_again (sequence_of (map made xs)) rest (size, have_spelling what made xs h) (omega arith))

-- ---- patterns

uuid_short_by : (octets : List ℕ) (short zeros : Bool) → length octets ≡ 16 → length (cond short (cond zeros (0x19 ∷ take 2 (drop 2 octets)) (0x1A ∷ take 4 octets)) (0x1C ∷ octets)) ≤ 17
uuid_short_by octets true true e = omega (arith, length-take 2 (drop 2 octets))
uuid_short_by octets true false e = omega (arith, length-take 4 octets)
uuid_short_by octets false zeros e = omega arith

uuid_part : (octets : List ℕ) → IsUuid octets → IsPart uuid_of octets (uuid_tree octets)
uuid_part octets h = record {
  read = refl;
  spelling = h;
  simple = refl;
  short = uuid_short_by octets (bytes_eq (drop 4 octets) base_end) ((slice_index octets 0 == 0) && (slice_index octets 1 == 0)) h.0;
}

uuid_parts : (pattern : List (List ℕ)) → AllByRecursion IsUuid pattern → AreParts uuid_of uuid_tree pattern
uuid_parts [] h = tt
uuid_parts (octets ∷ pattern) h = (uuid_part octets h.0, uuid_parts pattern h.1)

pub pattern_again : (pattern : List (List ℕ)) (rest : List ℕ) → IsPattern pattern → pattern_at (pattern_octets pattern ++ rest) ≡ Some (pattern, rest)
pattern_again pattern rest h =
    let parts = uuid_parts pattern h.2 in
    let some = h.0 in
    let most = h.1 in
    let none : Option (List (List ℕ)) = None in
    let test : is_some_identifiers pattern ≡ true = both_true (nat_le 1 (length pattern)) (nat_le (length pattern) 12) (le-leb 1 (length pattern) some) (le-leb (length pattern) 12 most) in
    ap (λ (o : Option (Trees × List ℕ)). o >>= λ found. (collected uuid_of found.0 >>= λ ids. cond (is_some_identifiers ids) (Some ids) none) >>= λ ids. Some (ids, found.1)) (sequence_again uuid_of uuid_tree pattern rest parts (omega arith))
    ∙ ap (λ (o : Option (List (List ℕ))). (o >>= λ ids. cond (is_some_identifiers ids) (Some ids) none) >>= λ ids. Some (ids, rest)) (collected_again uuid_of uuid_tree pattern parts)
    ∙ ap (λ (o : Option (List (List ℕ))). o >>= λ ids. Some (ids, rest)) (cond-true (is_some_identifiers pattern) (Some pattern) none test)

-- ---- attribute lists

abbrev range : ℕ → ℕ → Range
range low high = record { low = low; high = high }

one_part : (r : Range) → r.low ≡ r.high → r.high < 2 ^ 16 → IsPart range_of r (unsigned 2 r.low)
one_part r e h =
    let none : Option Range = None in
    let other : Option Range = cond (false && nat_le (r.low / 65536) (r.low % 65536)) (Some (range (r.low / 65536) (r.low % 65536))) none in
    record {
      read = cond-true (nat_lt r.low 65536) (Some (range r.low r.low)) other (lt-ltb r.low 65536 (omega arith)) ∙ ap (λ (high : ℕ). Some (range r.low high)) e;
      spelling = ((inr (inl refl), omega arith), tt);
      simple = refl;
      short = omega arith;
    }

both_part : (r : Range) → r.low ≤ r.high → r.high < 2 ^ 16 → IsPart range_of r (unsigned 4 (65536 * r.low + r.high))
both_part r within h =
    let number = 65536 * r.low + r.high in
    let none : Option Range = None in
    let low : number / 65536 ≡ r.low = omega arith in
    let high : number % 65536 ≡ r.high = omega arith in
    let test : nat_le (number / 65536) (number % 65536) ≡ true = le-leb (number / 65536) (number % 65536) (omega arith) in
    record {
      read = cond-true (nat_le (number / 65536) (number % 65536)) (Some (range (number / 65536) (number % 65536))) none test ∙ ap (λ (x : ℕ). Some (range x (number % 65536))) low ∙ ap (λ (x : ℕ). Some (range r.low x)) high;
      spelling = ((inr (inr (inl refl)), omega arith), tt);
      simple = refl;
      short = omega arith;
    }

range_part : (r : Range) → IsRange r → IsPart range_of r (range_tree r)
range_part r h =
    let one = unsigned 2 r.low in
    let both = unsigned 4 (65536 * r.low + r.high) in
    elim (eqb_tells r.low r.high) [
      | inl same ↦ subst (IsPart range_of r) (sym (cond-true (r.low == r.high) one both same.0)) (one_part r same.1 h.1)
      | inr other ↦ subst (IsPart range_of r) (sym (cond-false (r.low == r.high) one both other.0)) (both_part r h.0 h.1)
    ]

range_parts : (ranges : List Range) → AllByRecursion IsRange ranges → AreParts range_of range_tree ranges
range_parts [] h = tt
range_parts (r ∷ ranges) h = (range_part r h.0, range_parts ranges h.1)

pub ranges_again : (ranges : List Range) (rest : List ℕ) → AreRanges ranges → ranges_at (ranges_octets ranges ++ rest) ≡ Some (ranges, rest)
ranges_again ranges rest h =
    let parts = range_parts ranges h.1 in
    ap (λ (o : Option (Trees × List ℕ)). o >>= λ found. collected range_of found.0 >>= λ rs. Some (rs, found.1)) (sequence_again range_of range_tree ranges rest parts h.0)
    ∙ ap (λ (o : Option (List Range)). o >>= λ rs. Some (rs, rest)) (collected_again range_of range_tree ranges parts)

-- ---- numbers

most_again : (least n : ℕ) (rest : List ℕ) → least ≤ n → n < 2 ^ 16 → number_at 2 least (be16 n ++ rest) ≡ Some (n, rest)
most_again least n rest h fits =
    let octets = be16 n ++ rest in
    let read : Option (ℕ × List ℕ) = Some (big_number 2 octets, rest) in
    let none : Option (ℕ × List ℕ) = None in
    let named : big_number 2 octets ≡ n = be16-number n rest fits in
    let enough : least ≤ big_number 2 octets = omega (arith, named) in
    cond-true (nat_le 2 (length octets) && nat_le least (big_number 2 octets)) read none (both_true (nat_le 2 (length octets)) (nat_le least (big_number 2 octets)) (le-leb 2 (length octets) (omega arith)) (le-leb least (big_number 2 octets) enough))
    ∙ ap (λ (x : ℕ). let found : ℕ × List ℕ = (x, rest) in Some found) named

handle_again : (n : ℕ) (rest : List ℕ) → n < 2 ^ 32 → number_at 4 0 (be32 n ++ rest) ≡ Some (n, rest)
handle_again n rest fits =
    let octets = be32 n ++ rest in
    let read : Option (ℕ × List ℕ) = Some (big_number 4 octets, rest) in
    let none : Option (ℕ × List ℕ) = None in
    let named : big_number 4 octets ≡ n = be32-number n rest fits in
    cond-true (nat_le 4 (length octets) && nat_le 0 (big_number 4 octets)) read none (both_true (nat_le 4 (length octets)) (nat_le 0 (big_number 4 octets)) (le-leb 4 (length octets) (omega arith)) (le-leb 0 (big_number 4 octets) (omega arith)))
    ∙ ap (λ (x : ℕ). let found : ℕ × List ℕ = (x, rest) in Some found) named

-- ---- requests

pub requests_again : ReadsAgain
requests_again = record {
  handles = λ pattern most continuation p least fits k.
      let state = length continuation ∷ continuation in
      handles_found (handles_parameters pattern most continuation) (be16 most ++ state) state pattern most continuation (pattern_again pattern (be16 most ++ state) p) (sym (most_again 1 most state least fits)) (sym (continuation_again continuation k));
  attributes = λ handle most ranges continuation h least fits r k.
      let state = length continuation ∷ continuation in
      attributes_found (attributes_parameters handle most ranges continuation) (be16 most ++ (ranges_octets ranges ++ state)) (ranges_octets ranges ++ state) state handle most ranges continuation
      (sym (handle_again handle (be16 most ++ (ranges_octets ranges ++ state)) h)) (sym (most_again 7 most (ranges_octets ranges ++ state) least fits)) (ranges_again ranges state r) (sym (continuation_again continuation k));
  search = λ pattern most ranges continuation p least fits r k.
      let state = length continuation ∷ continuation in
      search_found (search_parameters pattern most ranges continuation) (be16 most ++ (ranges_octets ranges ++ state)) (ranges_octets ranges ++ state) state pattern most ranges continuation
      (pattern_again pattern (be16 most ++ (ranges_octets ranges ++ state)) p) (sym (most_again 7 most (ranges_octets ranges ++ state) least fits)) (ranges_again ranges state r) (sym (continuation_again continuation k));
}
