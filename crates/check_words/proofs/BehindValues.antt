-- Each value of the tables behind is the check word of its octet with zero octets behind it.
use Rattle.std.proofs.Common.{◌≡◌, ℕ, zero, suc, ◌+◌, ◌/◌, ◌%◌, ◌^◌, ◌<◌, Bool, List, [], ◌∷◌, map, length, get_or, replicate, bit_xor, refl, sym, ap, subst, ◌∙◌, arith}
use Rattle.std.proofs.lemmas.List.{get_or-map, length-map, replicate_more}
use Rattle.std.specs.Int.Bits.{xor_zero_r}
use Rattle.std.proofs.lemmas.Grind.{flat_map-append}
use Rattle.check_words.specs.Division.{zeros}
use Rattle.check_words.specs.CheckWords.{low_bits, bits_of, l2cap_check}
use Rattle.check_words.specs.declared.table.TheConstants.{CHECK_WORDS}
use Rattle.check_words.specs.declared.behind.TheConstants.{CHECK_WORDS_BEHIND}
use Rattle.check_words.proofs.Steps.{kept_all, remainder-from, kept_all-append}
use Rattle.check_words.proofs.LowBits.{length-low_bits, low_bits-mod}
use Rattle.check_words.proofs.CheckWord.{low_part, check_is_kept, octet_more}
use Rattle.check_words.proofs.TableValues.{table_is}

-- the word with a zero octet more behind
unfoldable pub zero_behind : ℕ → ℕ
zero_behind word = bit_xor (word / 256 % 256) (get_or CHECK_WORDS (word % 256) 0)

-- so many tables, each with a zero octet more behind than the one before
unfoldable pub tables_behind : ℕ → List ℕ → List (List ℕ)
tables_behind zero words = []
tables_behind (suc count) words = map zero_behind words ∷ tables_behind count (map zero_behind words)

all_right : CHECK_WORDS_BEHIND ≡ tables_behind 7 CHECK_WORDS
unfolding zero_behind tables_behind
all_right = refl

-- one zero octet more, by the check word of a single octet
one_zero : (n octet word entry : ℕ) → low_bits 16 entry ≡ l2cap_check (word % 256 ∷ [])
    → low_bits 16 word ≡ l2cap_check (octet ∷ replicate n 0) → low_bits 16 (bit_xor (word / 256 % 256) entry) ≡ l2cap_check (octet ∷ replicate (n + 1) 0)
unfolding low_bits
one_zero n octet word entry entered is =
    let low : ℕ = word % 2 ^ 16 in
    let high : low / 256 ≡ word / 256 % 256 = omega arith in
    let front : bit_xor (low % 256) 0 ≡ word % 256 = xor_zero_r (low % 256) ∙ omega arith in
    let octets : List ℕ = octet ∷ replicate n 0 in
    ap (λ (k : ℕ). low_bits 16 (bit_xor k entry)) (sym high)
    ∙ octet_more low 0 entry (omega arith) (entered ∙ ap (λ (k : ℕ). l2cap_check (k ∷ [])) (sym front))
    ∙ remainder-from low_part (low_bits 16 low) (low_bits 8 0) (length-low_bits 16 low) (omega arith)
    ∙ ap (λ (s : List Bool). kept_all low_part s (low_bits 8 0)) (low_bits-mod 16 word ∙ is ∙ check_is_kept octets)
    ∙ sym (kept_all-append low_part (zeros 16) (bits_of octets) (low_bits 8 0))
    ∙ ap (kept_all low_part (zeros 16)) (sym (flat_map-append (low_bits 8) octets (0 ∷ [])))
    ∙ ap (λ (xs : List ℕ). kept_all low_part (zeros 16) (bits_of (octet ∷ xs))) (replicate_more n 0)
    ∙ sym (check_is_kept (octet ∷ replicate (n + 1) 0))

zero_right : (n octet word : ℕ) → low_bits 16 word ≡ l2cap_check (octet ∷ replicate n 0) → low_bits 16 (zero_behind word) ≡ l2cap_check (octet ∷ replicate (n + 1) 0)
unfolding zero_behind
zero_right n octet word = one_zero n octet word (get_or CHECK_WORDS (word % 256) 0) (table_is (word % 256) (omega arith))

-- the words of all octets, with so many zero octets behind each
unfoldable pub AreRight : ℕ → List ℕ → Type 0
AreRight n words = (octet : ℕ) → octet < 256 → low_bits 16 (get_or words octet 0) ≡ l2cap_check (octet ∷ replicate n 0)

next_right : (n : ℕ) (words : List ℕ) → length words ≡ 256 → AreRight n words → AreRight (n + 1) (map zero_behind words)
unfolding AreRight
next_right n words long right octet small =
    ap (low_bits 16) (get_or-map zero_behind words octet 0 0 (omega arith)) ∙ zero_right n octet (get_or words octet 0) (right octet small)

all_behind : (count n : ℕ) (words : List ℕ) → length words ≡ 256 → AreRight n words
    → (more : ℕ) → more < count → AreRight (n + 1 + more) (get_or (tables_behind count words) more [])
unfolding tables_behind
all_behind zero n words long right more few = absurd (omega arith)
all_behind (suc count) n words long right zero few =
    let counted : n + 1 ≡ n + 1 + zero = omega arith in
    subst (λ (k : ℕ). AreRight k (map zero_behind words)) counted (next_right n words long right)
all_behind (suc count) n words long right (suc more) few =
    let counted : n + 1 + 1 + more ≡ n + 1 + suc more = omega arith in
    let rest : List (List ℕ) = tables_behind count (map zero_behind words) in
    let again : AreRight (n + 1 + 1 + more) (get_or rest more []) =
    all_behind count (n + 1) (map zero_behind words) (length-map words zero_behind ∙ long) (next_right n words long right) more (omega arith) in
    subst (λ (k : ℕ). AreRight k (get_or rest more [])) counted again

pub behind_is : (more octet : ℕ) → more < 7 → octet < 256
    → low_bits 16 (get_or (get_or CHECK_WORDS_BEHIND more []) octet 0) ≡ l2cap_check (octet ∷ replicate (more + 1) 0)
unfolding AreRight
behind_is more octet few small =
    let counted : 0 + 1 + more ≡ more + 1 = omega arith in
    ap (λ (tables : List (List ℕ)). low_bits 16 (get_or (get_or tables more []) octet 0)) all_right
    ∙ all_behind 7 0 CHECK_WORDS refl table_is more few octet small
    ∙ ap (λ (k : ℕ). l2cap_check (octet ∷ replicate k 0)) counted
