-- Counting the identifiers of a pattern.
use Rattle.std.proofs.Common.{◌≡◌, ℕ, zero, suc, ◌+◌, ◌≤◌, ◌<◌, Bool, true, false, List, ◌∷◌, length, Option, Some, None, refl, sym, ap, ◌∙◌, arith}
use Rattle.std.specs.Prelude.{◌&&◌, nat_le, nat_lt, is_some, cond}
use Rattle.std.specs.Option.{option_map_or}
use Rattle.std.proofs.lemmas.Bool.{le-leb, lt-ltb, lt-leb}
use Rattle.sdp_elements.specs.Elements.{PlainElement, Trees, Finish, Then}
use Rattle.sdp_elements.specs.Optional.{◌>>=◌}
use Rattle.sdp_elements.specs.Sequences.{sequence_at, collected}
use Rattle.sdp_elements.specs.Spelling.{AreSpelledBy}
use Rattle.sdp_elements.proofs.WalkLaws.{Walked}
use Rattle.sdp_server.specs.Requests.{uuid_of, is_pattern, pattern_of, pattern_at, is_some_identifiers}

abbrev between : ℕ → Bool
between n = nat_le 1 n && nat_le n 12

abbrev counted_in : ℕ → Option (List (List ℕ)) → Bool
counted_in n read = option_map_or (λ identifiers. between (n + length identifiers)) read false

-- whether the parts are a pattern behind so many identifiers
abbrev pub counted : ℕ → Trees → Bool
counted n parts = counted_in n (collected uuid_of parts)

-- the count and the parts that are left decide
pub record Counts (trees : Trees) (count : ℕ) (left : List ℕ) : Type 0 where
  pub rest : Trees
  pub spelled : AreSpelledBy rest left
  pub same : is_pattern trees ≡ counted count rest

kept : (test : Bool) (x : List (List ℕ)) → is_some (cond test (Some x) None) ≡ test
kept true x = refl
kept false x = refl

read_all : (read : Option (List (List ℕ))) → is_some (read >>= λ identifiers. cond (is_some_identifiers identifiers) (Some identifiers) None) ≡ counted_in 0 read
read_all (Some identifiers) =
    let n : 0 + length identifiers ≡ length identifiers = omega arith in
    kept (is_some_identifiers identifiers) identifiers ∙ ap between (sym n)
read_all None = refl

pub counts_all : (trees : Trees) (left : List ℕ) → AreSpelledBy trees left → Counts trees 0 left
counts_all trees left s = record { rest = trees; spelled = s; same = read_all (collected uuid_of trees) }

-- behind one more identifier
more_in : (n : ℕ) (x : List ℕ) (read : Option (List (List ℕ))) → counted_in n (read >>= λ more. Some (x ∷ more)) ≡ counted_in (n + 1) read
more_in n x (Some more) =
    let e : n + suc (length more) ≡ n + 1 + length more = omega arith in
    ap between e
more_in n x None = refl

first_in : (n : ℕ) (o : Option (List ℕ)) (read : Option (List (List ℕ))) → is_some o ≡ true → counted_in n (o >>= λ found. read >>= λ more. Some (found ∷ more)) ≡ counted_in (n + 1) read
first_in n (Some x) read h = more_in n x read
first_in n None read h = absurd cc

none_in : (n : ℕ) (o : Option (List ℕ)) (read : Option (List (List ℕ))) → is_some o ≡ false → counted_in n (o >>= λ found. read >>= λ more. Some (found ∷ more)) ≡ false
none_in n (Some x) read h = absurd cc
none_in n None read h = refl

full_in : (read : Option (List (List ℕ))) (n : ℕ) → n ≡ 13 → counted_in n read ≡ false
full_in (Some more) n e =
    let b : 12 < n + length more = omega arith in
    let low = le-leb 1 (n + length more) (omega arith) in
    let high = lt-leb (n + length more) 12 b in
    ap (λ (t : Bool). t && nat_le (n + length more) 12) low ∙ high
full_in None n e = refl

along : (trees : Trees) (count : ℕ) (left new : List ℕ) (element : PlainElement) (k : Counts trees count left) (w : Walked k.rest element new) → is_pattern trees ≡ counted count (Then w.first w.others)
along trees count left new element k w = k.same ∙ ap (counted count) w.rest_is

pub counts_on : (trees : Trees) (count : ℕ) (old new : List ℕ) (element : PlainElement) (k : Counts trees count old) (w : Walked k.rest element new) → is_some (uuid_of w.first) ≡ true → Counts trees (count + 1) new
counts_on trees count old new element k w h = record {
  rest = w.others;
  spelled = w.spelled;
  same = along trees count old new element k w ∙ first_in count (uuid_of w.first) (collected uuid_of w.others) h;
}

pub counts_no : (trees : Trees) (count : ℕ) (old new : List ℕ) (element : PlainElement) (k : Counts trees count old) (w : Walked k.rest element new) → is_some (uuid_of w.first) ≡ false → is_pattern trees ≡ false
counts_no trees count old new element k w h = along trees count old new element k w ∙ none_in count (uuid_of w.first) (collected uuid_of w.others) h

-- a thirteenth identifier
pub counts_full : (trees : Trees) (count : ℕ) (old new : List ℕ) (element : PlainElement) (k : Counts trees count old) (w : Walked k.rest element new) → is_some (uuid_of w.first) ≡ true → count ≡ 12 → is_pattern trees ≡ false
counts_full trees count old new element k w h e =
    along trees count old new element k w ∙ first_in count (uuid_of w.first) (collected uuid_of w.others) h ∙ full_in (collected uuid_of w.others) (count + 1) (omega arith)

between_is : (n : ℕ) → n ≤ 12 → between (n + 0) ≡ nat_lt 0 n
between_is zero h = refl
between_is (suc n) h =
    let e : suc n + 0 ≡ suc n = omega arith in
    ap between e ∙ ap (λ (t : Bool). t && nat_le (suc n) 12) (le-leb 1 (suc n) (omega arith)) ∙ le-leb (suc n) 12 h ∙ sym (lt-ltb 0 (suc n) (omega arith))

pub counts_over : (trees : Trees) (count : ℕ) (left : List ℕ) (k : Counts trees count left) → k.rest ≡ Finish → count ≤ 12 → is_pattern trees ≡ nat_lt 0 count
counts_over trees count left k over h = k.same ∙ ap (counted count) over ∙ between_is count h

-- ---- a pattern at the front

read_pattern : (read : Option (List (List ℕ))) → is_some (read >>= λ identifiers. cond (is_some_identifiers identifiers) (Some identifiers) None) ≡ true
    → (identifiers : List (List ℕ)) × ((read >>= λ identifiers. cond (is_some_identifiers identifiers) (Some identifiers) None) ≡ Some identifiers) × (read ≡ Some identifiers)
read_pattern (Some identifiers) h =
    let test : is_some_identifiers identifiers ≡ true = sym (kept (is_some_identifiers identifiers) identifiers) ∙ h in
    (identifiers, ap (λ (t : Bool). cond t (Some identifiers) None) test, refl)
read_pattern None h = absurd cc

pub pattern_found : (octets rest : List ℕ) (parts : Trees) → sequence_at octets ≡ Some (parts, rest) → is_pattern parts ≡ true
    → (identifiers : List (List ℕ)) × (pattern_at octets ≡ Some (identifiers, rest)) × (collected uuid_of parts ≡ Some identifiers)
pattern_found octets rest parts e h =
    let p = read_pattern (collected uuid_of parts) h in (
      p.0,
      ap (λ (o : Option (Trees × List ℕ)). o >>= λ found. pattern_of found.0 >>= λ identifiers. Some (identifiers, found.1)) e ∙ ap (λ (o : Option (List (List ℕ))). o >>= λ identifiers. Some (identifiers, rest)) p.1,
      p.2,
    )
