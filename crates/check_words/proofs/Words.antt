-- Words of 64 bits, of eight octets each.
use Rattle.std.proofs.Common.{◌≡◌, ℕ, suc, ◌+◌, ◌-◌, ◌*◌, ◌/◌, ◌%◌, ◌^◌, ◌<◌, Bool, List, [], ◌∷◌, ◌++◌, length, take, drop, get_or, refl, sym, ap, ◌∙◌, arith, length-append}
use Rattle.std.specs.Int.{w64, to_le_bytes, from_le_bytes}
use Rattle.std.specs.List.{slice_range}
use Rattle.std.proofs.lemmas.Grind.{flat_map-append}
use Rattle.std.proofs.lemmas.Nat.{le_bytes_8}
use Rattle.std.proofs.lemmas.List.{append-nil, drop_all, drop-drop, take_more, take-append-drop}
use native.Mathlib.Nat as nat
use Rattle.check_words.specs.Division.{remainder, zeros}
use Rattle.check_words.specs.CheckWords.{low_bits, bits_of, bits_of_words, l2cap_generator, l2cap_check}
use Rattle.check_words.proofs.Steps.{kept_all, remainder-behind, kept_all-append}
use Rattle.check_words.proofs.LowBits.{low_bits-mod}
use Rattle.check_words.proofs.CheckWord.{low_part, check_is_kept}
use Rattle.check_words.proofs.Eights.{elements, all_elements, behind_is_kept, left_behind}
use Rattle.check_words.proofs.Folding.{left_of, fold_words, words_folded}

-- ---- a word and its octets

octet_off : (count n : ℕ) → low_bits (suc (suc (suc (suc (suc (suc (suc (suc count)))))))) n ≡ low_bits 8 n ++ low_bits count (n / 256)
unfolding low_bits
octet_off count n =
    let e : n / 2 / 2 / 2 / 2 / 2 / 2 / 2 / 2 ≡ n / 256 = omega arith in
    ap (λ (k : ℕ). low_bits 8 n ++ low_bits count k) e

-- the bits from a place on, of which the first eight are those of an octet
octet_at : (count place n : ℕ) (rest : List Bool) → low_bits count (n / (place * 256)) ≡ rest
    → low_bits (suc (suc (suc (suc (suc (suc (suc (suc count)))))))) (n / place) ≡ low_bits 8 (n / place % 256) ++ rest
octet_at count place n rest is =
    octet_off count (n / place)
    ∙ ap (λ (w : List Bool). w ++ low_bits count (n / place / 256)) (sym (low_bits-mod 8 (n / place)))
    ∙ ap (λ (k : ℕ). low_bits 8 (n / place % 256) ++ low_bits count k) (nat.div-div-eq-div-mul n place 256)
    ∙ ap (λ (w : List Bool). low_bits 8 (n / place % 256) ++ w) is

pub word_octets : (n : ℕ) → low_bits 64 n ≡ bits_of (to_le_bytes w64 n)
unfolding low_bits
word_octets n =
    let one : n / 1 ≡ n = omega arith in
    let last : low_bits 8 (n / 256 ^ 7) ≡ low_bits 8 (n / 256 ^ 7 % 256) ++ [] = octet_at 0 (256 ^ 7) n [] refl in
    let seven : low_bits 16 (n / 256 ^ 6) ≡ low_bits 8 (n / 256 ^ 6 % 256) ++ _ = octet_at 8 (256 ^ 6) n _ last in
    let six : low_bits 24 (n / 256 ^ 5) ≡ low_bits 8 (n / 256 ^ 5 % 256) ++ _ = octet_at 16 (256 ^ 5) n _ seven in
    let five : low_bits 32 (n / 256 ^ 4) ≡ low_bits 8 (n / 256 ^ 4 % 256) ++ _ = octet_at 24 (256 ^ 4) n _ six in
    let four : low_bits 40 (n / 256 ^ 3) ≡ low_bits 8 (n / 256 ^ 3 % 256) ++ _ = octet_at 32 (256 ^ 3) n _ five in
    let three : low_bits 48 (n / 256 ^ 2) ≡ low_bits 8 (n / 256 ^ 2 % 256) ++ _ = octet_at 40 (256 ^ 2) n _ four in
    let two : low_bits 56 (n / 256) ≡ low_bits 8 (n / 256 % 256) ++ _ = octet_at 48 256 n _ three in
    let all : low_bits 64 (n / 1) ≡ low_bits 8 (n / 1 % 256) ++ _ = octet_at 56 1 n _ two in
    ap (low_bits 64) (sym one) ∙ all ∙ ap (λ (k : ℕ). low_bits 8 (k % 256) ++ bits_of (drop 1 (to_le_bytes w64 n))) one

pub word_read : (octets : List ℕ) (word : ℕ) → length octets ≡ 8 → ((i : ℕ) → get_or octets i 0 < 256)
    → word ≡ from_le_bytes w64 (elements 8 0 octets) → low_bits 64 word ≡ bits_of octets
word_read octets word long small is =
    let all : octets ≡ elements 8 0 octets = all_elements 8 0 octets long in
    word_octets word ∙ ap bits_of (le_bytes_8 octets word long small (is ∙ ap (from_le_bytes w64) (sym all)))

-- ---- words of the octets from a place on

-- the words have the octets from a place on, each of them eight
abbrev pub AreWords : List ℕ → ℕ → List ℕ → Type 0
AreWords octets n [] = length octets ≡ n
AreWords octets n (word ∷ words) = (low_bits 64 word ≡ bits_of (slice_range octets n (n + 8))) × AreWords octets (n + 8) words

words_from : (octets : List ℕ) (n : ℕ) (words : List ℕ) → AreWords octets n words → bits_of_words words ≡ bits_of (drop n octets)
words_from octets n [] all = ap bits_of (sym (drop_all n octets (omega arith)))
words_from octets n (word ∷ words) all =
    let size : n + 8 - n ≡ 8 = omega arith in
    let behind : List ℕ = drop n octets in
    ap (λ (w : List Bool). w ++ bits_of_words words) (all.0 ∙ ap (λ (k : ℕ). bits_of (take k behind)) size)
    ∙ ap (λ (w : List Bool). bits_of (take 8 behind) ++ w) (words_from octets (n + 8) words all.1 ∙ ap bits_of (sym (drop-drop 8 n octets)))
    ∙ sym (flat_map-append (low_bits 8) (take 8 behind) (drop 8 behind))
    ∙ ap bits_of (take-append-drop 8 behind)

-- ---- sixteen words, and octets behind them

pub octets_folded : (words more octets : List ℕ) → length words ≡ 16 → length more ≡ 16 → AreWords octets 0 more
    → remainder l2cap_generator (bits_of_words (fold_words 16 (elements 16 0 words ++ more)) ++ zeros 16)
    ≡ remainder l2cap_generator ((bits_of_words words ++ bits_of octets) ++ zeros 16)
octets_folded words more octets size size' are =
    let all : words ≡ elements 16 0 words = all_elements 16 0 words size in
    let sums : length (words ++ more) ≡ 32 = omega (arith, length-append words more) in
    ap (λ (xs : List ℕ). remainder l2cap_generator (bits_of_words (fold_words 16 (xs ++ more)) ++ zeros 16)) (sym all)
    ∙ remainder-behind low_part (bits_of_words (fold_words 16 (words ++ more))) (omega arith)
    ∙ sym (words_folded 16 (words ++ more) (omega arith))
    ∙ ap left_of (flat_map-append (low_bits 64) words more ∙ ap (λ (w : List Bool). bits_of_words words ++ w) (words_from octets 0 more are))
    ∙ sym (remainder-behind low_part (bits_of_words words ++ bits_of octets) (omega arith))

-- the check word of octets up to a place, by words that leave the same
abbrev pub StandFor : List ℕ → List ℕ → Type 0
StandFor words octets = remainder l2cap_generator (bits_of_words words ++ zeros 16) ≡ l2cap_check octets

pub stand_further : (words next front octets : List ℕ) → StandFor words front
    → remainder l2cap_generator (bits_of_words next ++ zeros 16) ≡ remainder l2cap_generator ((bits_of_words words ++ bits_of octets) ++ zeros 16)
    → StandFor next (front ++ octets)
stand_further words next front octets before after =
    let same : left_of (bits_of_words words) ≡ left_of (bits_of front) =
    sym (remainder-behind low_part (bits_of_words words) (omega arith)) ∙ before ∙ check_is_kept front in
    after
    ∙ remainder-behind low_part (bits_of_words words ++ bits_of octets) (omega arith)
    ∙ kept_all-append low_part (zeros 16) (bits_of_words words) (bits_of octets)
    ∙ ap (λ (s : List Bool). kept_all low_part s (bits_of octets)) same
    ∙ sym (kept_all-append low_part (zeros 16) (bits_of front) (bits_of octets))
    ∙ ap left_of (sym (flat_map-append (low_bits 8) front octets))
    ∙ sym (check_is_kept (front ++ octets))

-- ---- the check word of words

pub one_word_more : (words : List ℕ) (i check next : ℕ) → i < length words
    → low_bits 16 check ≡ remainder l2cap_generator (bits_of_words (take i words) ++ zeros 16)
    → low_bits 16 next ≡ left_behind check (to_le_bytes w64 (get_or words i 0))
    → low_bits 16 next ≡ remainder l2cap_generator (bits_of_words (take (i + 1) words) ++ zeros 16)
one_word_more words i check next within before after =
    let front : List ℕ = take i words in
    let word : ℕ = get_or words i 0 in
    after
    ∙ behind_is_kept check (to_le_bytes w64 word)
    ∙ ap (kept_all low_part (low_bits 16 check)) (sym (word_octets word))
    ∙ ap (λ (s : List Bool). kept_all low_part s (low_bits 64 word)) (before ∙ remainder-behind low_part (bits_of_words front) (omega arith))
    ∙ sym (kept_all-append low_part (zeros 16) (bits_of_words front) (low_bits 64 word))
    ∙ ap (λ (w : List Bool). left_of (bits_of_words front ++ w)) (sym (append-nil (low_bits 64 word)))
    ∙ ap left_of (sym (flat_map-append (low_bits 64) front (word ∷ [])))
    ∙ ap (λ (xs : List ℕ). left_of (bits_of_words xs)) (sym (take_more words i 0 within))
    ∙ sym (remainder-behind low_part (bits_of_words (take (i + 1) words)) (omega arith))
