-- Words are had back from the line in which they stand, and what is printable is text.
use Rattle.std.proofs.Common.{◌≡◌, ℕ, zero, suc, ◌+◌, ◌<◌, ◌≤◌, Bool, true, not, ◌&&◌, List, [], ◌∷◌, ◌++◌, length, take, drop, Some, refl, ap, ◌∙◌, arith}
use Rattle.std.specs.Prelude.{nat_lt, ◌==◌, slice_index}
use Rattle.std.specs.List.{position_or_len, list_all}
use Rattle.std.specs.Str.{IsUtf8}
use Rattle.std.proofs.lemmas.Bool.{and_parts, and_from, ltb-true, lt-ltb, eq-eqb, ne_eqb, not_from_false}
use Rattle.std.proofs.lemmas.List.{take_at, length-append}
use Rattle.std.proofs.lemmas.Str.{IsUtf8-from_ascii}
use Rattle.script_words.specs.Parts.{first_word, rest_of}

-- the octet is another than that
abbrev pub differs : ℕ → ℕ → Bool
differs other octet = not (octet == other)

-- a character that is seen, and one that is seen or blank
abbrev pub is_graphic : ℕ → Bool
is_graphic octet = nat_lt 32 octet && nat_lt octet 127

abbrev pub is_printable : ℕ → Bool
is_printable octet = nat_lt 31 octet && nat_lt octet 127

pub all_weaker : (p q : ℕ → Bool) → ((c : ℕ) → p c ≡ true → q c ≡ true) → (xs : List ℕ) → list_all p xs ≡ true → list_all q xs ≡ true
all_weaker p q weaker [] h = refl
all_weaker p q weaker (x ∷ xs) h =
    let parts : (p x ≡ true) × (list_all p xs ≡ true) = and_parts (p x) (list_all p xs) h in
    and_from (q x) (list_all q xs) (weaker x parts.0) (all_weaker p q weaker xs parts.1)

pub all_append : (p : ℕ → Bool) (xs ys : List ℕ) → list_all p xs ≡ true → list_all p ys ≡ true → list_all p (xs ++ ys) ≡ true
all_append p [] ys h k = k
all_append p (x ∷ xs) ys h k =
    let parts : (p x ≡ true) × (list_all p xs ≡ true) = and_parts (p x) (list_all p xs) h in
    and_from (p x) (list_all p (xs ++ ys)) parts.0 (all_append p xs ys parts.1 k)

pub differs_above : (low other c : ℕ) → other ≤ low → low < c → differs other c ≡ true
differs_above low other c le lt = not_from_false (c == other) (ne_eqb c other (λ e. omega arith))

graphic_differs : (other : ℕ) → other ≤ 32 → (c : ℕ) → is_graphic c ≡ true → differs other c ≡ true
graphic_differs other le c h = differs_above 32 other c le (ltb-true 32 c (and_parts (nat_lt 32 c) (nat_lt c 127) h).0)

graphic_printable : (c : ℕ) → is_graphic c ≡ true → is_printable c ≡ true
graphic_printable c h =
    let parts : (nat_lt 32 c ≡ true) × (nat_lt c 127 ≡ true) = and_parts (nat_lt 32 c) (nat_lt c 127) h in
    let above : 32 < c = ltb-true 32 c parts.0 in
    and_from (nat_lt 31 c) (nat_lt c 127) (lt-ltb 31 c (omega arith)) parts.1

-- a word has no blank
pub without_blank : (word : List ℕ) → list_all is_graphic word ≡ true → list_all (differs 32) word ≡ true
without_blank = all_weaker is_graphic (differs 32) (graphic_differs 32 (omega arith))

pub seen : (word : List ℕ) → list_all is_graphic word ≡ true → list_all is_printable word ≡ true
seen = all_weaker is_graphic is_printable graphic_printable

-- the first octet of that value stands behind all octets of others
place : (d : ℕ) (w rest : List ℕ) → list_all (differs d) w ≡ true → position_or_len (λ octet. octet == d) (w ++ d ∷ rest) ≡ length w
place d [] rest h = rw (eq-eqb d d refl) refl
place d (c ∷ cs) rest h =
    let parts : (differs d c ≡ true) × (list_all (differs d) cs ≡ true) = and_parts (differs d c) (list_all (differs d) cs) h in
    let ih : position_or_len (λ octet. octet == d) (cs ++ d ∷ rest) ≡ length cs = place d cs rest parts.1 in
    let more : 1 + length cs ≡ suc (length cs) = omega arith in
    rw (parts.0, ih) more

past : (d : ℕ) (w rest : List ℕ) → drop (length w + 1) (w ++ d ∷ rest) ≡ rest
past d [] rest = refl
past d (c ∷ cs) rest = let e : suc (length cs) + 1 ≡ suc (length cs + 1) = omega arith in rw e (past d cs rest)

-- a word and what stands behind its blank
pub word_again : (w rest : List ℕ) → list_all (differs 32) w ≡ true → first_word (w ++ 32 ∷ rest) ≡ w
word_again w rest h = ap (λ (n : ℕ). take n (w ++ 32 ∷ rest)) (place 32 w rest h) ∙ take_at w (32 ∷ rest) (length w) refl

pub rest_again : (w rest : List ℕ) → list_all (differs 32) w ≡ true → rest_of (w ++ 32 ∷ rest) ≡ Some rest
rest_again w rest h =
    let inside : nat_lt (length w) (length (w ++ 32 ∷ rest)) ≡ true = lt-ltb _ _ (omega (arith, length-append w (32 ∷ rest))) in
    rw (place 32 w rest h, inside) (ap (λ (t : List ℕ). Some t) (past 32 w rest))

ascii : (xs : List ℕ) → list_all is_printable xs ≡ true → (i : ℕ) → slice_index xs i < 128
ascii [] h i = omega arith
ascii (x ∷ xs) h zero =
    let parts : (is_printable x ≡ true) × (list_all is_printable xs ≡ true) = and_parts (is_printable x) (list_all is_printable xs) h in
    let below : x < 127 = ltb-true x 127 (and_parts (nat_lt 31 x) (nat_lt x 127) parts.0).1 in
    omega arith
ascii (x ∷ xs) h (suc i) = ascii xs (and_parts (is_printable x) (list_all is_printable xs) h).1 i

pub printable_text : (octets : List ℕ) → list_all is_printable octets ≡ true → IsUtf8 octets
printable_text octets h = IsUtf8-from_ascii octets (ascii octets h)
