-- A word of 64 bits at the front leaves what it leaves 1, 14 and 16 words further behind.
use Rattle.std.proofs.Common.{◌≡◌, ℕ, zero, suc, ◌+◌, ◌-◌, ◌*◌, ◌<◌, ◌≤◌, Bool, true, false, List, [], ◌∷◌, ◌++◌, length, bit_xor, refl, sym, ap, ◌∙◌, arith, length-append}
use Rattle.std.proofs.lemmas.List.{length-replicate}
use Rattle.check_words.specs.Division.{added, zeros}
use Rattle.check_words.specs.CheckWords.{low_bits, bits_of_words}
use Rattle.check_words.proofs.Sums.{added-comm, added-assoc, zeros-added, length-added}
use Rattle.check_words.proofs.Steps.{kept, kept_all, length-kept_all, kept_all-append}
use Rattle.check_words.proofs.LowBits.{length-low_bits, low_bits-xor}
use Rattle.check_words.proofs.CheckWord.{low_part, interchange, kept_all-added}

-- ---- kept bits with zeros behind them

-- what is kept of bits
abbrev pub left_of : List Bool → List Bool
left_of bits = kept_all low_part (zeros 16) bits

-- the kept bits after so many zeros more
abbrev pub moved : ℕ → List Bool → List Bool
moved n state = kept_all low_part state (zeros n)

length-left_of : (bits : List Bool) → length (left_of bits) ≡ 16
length-left_of bits = length-kept_all low_part (zeros 16) bits refl

length-moved : (n : ℕ) (s : List Bool) → length s ≡ 16 → length (moved n s) ≡ 16
length-moved n s is = length-kept_all low_part s (zeros n) is

zeros_joined : (n m : ℕ) → zeros n ++ zeros m ≡ zeros (n + m)
zeros_joined zero m =
    let e : m ≡ 0 + m = omega arith in
    ap (λ (k : ℕ). zeros k) e
zeros_joined (suc n) m =
    let e : suc (n + m) ≡ suc n + m = omega arith in
    ap (λ (bits : List Bool). false ∷ bits) (zeros_joined n m) ∙ ap (λ (k : ℕ). zeros k) e

moved_again : (n m : ℕ) (s : List Bool) → moved m (moved n s) ≡ moved (n + m) s
moved_again n m s = sym (kept_all-append low_part s (zeros n) (zeros m)) ∙ ap (kept_all low_part s) (zeros_joined n m)

moved_in_turn : (n m : ℕ) (s : List Bool) → moved m (moved n s) ≡ moved n (moved m s)
moved_in_turn n m s =
    let e : n + m ≡ m + n = omega arith in
    moved_again n m s ∙ ap (λ (k : ℕ). moved k s) e ∙ sym (moved_again m n s)

moved-zeros : (n : ℕ) → moved n (zeros 16) ≡ zeros 16
unfolding kept kept_all
moved-zeros zero = refl
moved-zeros (suc n) = moved-zeros n

-- kept bits apart from others that the bits go behind
apart_from : (s s' bits : List Bool) → length s ≡ 16 → length s' ≡ 16
    → kept_all low_part (added s s') bits ≡ added (moved (length bits) s) (kept_all low_part s' bits)
apart_from s s' bits is is' =
    ap (kept_all low_part (added s s')) (sym (zeros-added (length bits) bits (omega arith)))
    ∙ kept_all-added low_part s s' (zeros (length bits)) bits is is' (length-replicate (length bits) false) (omega arith)

moved-added : (n : ℕ) (s s' : List Bool) → length s ≡ 16 → length s' ≡ 16 → moved n (added s s') ≡ added (moved n s) (moved n s')
moved-added n s s' is is' =
    apart_from s s' (zeros n) is is' ∙ ap (λ (k : ℕ). added (moved k s) (moved n s')) (length-replicate n false)

no_more : (s : List Bool) → length s ≡ 16 → added s (zeros 16) ≡ s
no_more s is = added-comm s (zeros 16) ∙ zeros-added 16 s (omega arith)

-- ---- the generator, squared six times, leaves nothing

-- the kept bits 1,024 bits further are their sum 960, 128 and no bits further
abbrev IsFolded : List Bool → Type 0
IsFolded s = moved 1024 s ≡ added (moved 960 s) (added (moved 128 s) s)

one_bit : IsFolded low_part
unfolding kept kept_all added
one_bit = refl

no_bits : IsFolded (zeros 16)
unfolding added
no_bits =
    moved-zeros 1024
    ∙ sym (ap (λ (w : List Bool). added w (added (moved 128 (zeros 16)) (zeros 16))) (moved-zeros 960)
    ∙ ap (λ (w : List Bool). added (zeros 16) (added w (zeros 16))) (moved-zeros 128))

sums_folded : (s s' : List Bool) → length s ≡ 16 → length s' ≡ 16 → IsFolded s → IsFolded s' → IsFolded (added s s')
sums_folded s s' is is' one other =
    moved-added 1024 s s' is is'
    ∙ ap (λ (w : List Bool). added w (moved 1024 s')) one
    ∙ ap (added (added (moved 960 s) (added (moved 128 s) s))) other
    ∙ interchange (moved 960 s) (added (moved 128 s) s) (moved 960 s') (added (moved 128 s') s')
    ∙ ap (added (added (moved 960 s) (moved 960 s'))) (interchange (moved 128 s) s (moved 128 s') s')
    ∙ ap (λ (w : List Bool). added w (added (added (moved 128 s) (moved 128 s')) (added s s'))) (sym (moved-added 960 s s' is is'))
    ∙ ap (λ (w : List Bool). added (moved 960 (added s s')) (added w (added s s'))) (sym (moved-added 128 s s' is is'))

length-kept_sum : (s s' : List Bool) → length s ≡ 16 → length s' ≡ 16 → length (added s s') ≡ 16
length-kept_sum s s' is is' = length-added s s' (omega arith) ∙ is'

-- so are they with zeros more behind
further_folded : (n : ℕ) (s : List Bool) → length s ≡ 16 → IsFolded s
    → moved n (moved 1024 s) ≡ added (moved n (moved 960 s)) (added (moved n (moved 128 s)) (moved n s))
further_folded n s is folded =
    let near : length (moved 128 s) ≡ 16 = length-moved 128 s is in
    let far : length (moved 960 s) ≡ 16 = length-moved 960 s is in
    let both : length (added (moved 128 s) s) ≡ 16 = length-kept_sum (moved 128 s) s near is in
    ap (moved n) folded
    ∙ moved-added n (moved 960 s) (added (moved 128 s) s) far both
    ∙ ap (added (moved n (moved 960 s))) (moved-added n (moved 128 s) s near is)

moved_folded : (n : ℕ) (s : List Bool) → length s ≡ 16 → IsFolded s → IsFolded (moved n s)
moved_folded n s is folded =
    moved_in_turn n 1024 s
    ∙ further_folded n s is folded
    ∙ ap (λ (w : List Bool). added w (added (moved n (moved 128 s)) (moved n s))) (moved_in_turn 960 n s)
    ∙ ap (λ (w : List Bool). added (moved 960 (moved n s)) (added w (moved n s))) (moved_in_turn 128 n s)

all_folded : (bits : List Bool) → IsFolded (left_of bits)
unfolding kept kept_all added
all_folded [] = no_bits
all_folded (false ∷ bits) = all_folded bits
all_folded (true ∷ bits) =
    let n : ℕ = length bits in
    let parts : kept_all low_part low_part bits ≡ added (moved n low_part) (left_of bits) =
    ap (λ (s : List Bool). kept_all low_part s bits) (sym (no_more low_part refl)) ∙ apart_from low_part (zeros 16) bits refl refl in
    rw parts (sums_folded (moved n low_part) (left_of bits) (length-moved n low_part refl) (length-left_of bits) (moved_folded n low_part refl one_bit) (all_folded bits))

-- ---- words

-- words with one more added to that at a place
unfoldable pub with_added : ℕ → ℕ → List ℕ → List ℕ
with_added place word [] = []
with_added zero word (x ∷ xs) = bit_xor x word ∷ xs
with_added (suc place) word (x ∷ xs) = x ∷ with_added place word xs

length-with_added : (place word : ℕ) (xs : List ℕ) → length (with_added place word xs) ≡ length xs
unfolding with_added
length-with_added place word [] = refl
length-with_added zero word (x ∷ xs) = refl
length-with_added (suc place) word (x ∷ xs) = ap suc (length-with_added place word xs)

length-words : (xs : List ℕ) → length (bits_of_words xs) ≡ 64 * length xs
length-words [] = refl
length-words (x ∷ xs) = omega (arith, length-append (low_bits 64 x) (bits_of_words xs), length-low_bits 64 x, length-words xs)

word_first : (s : List Bool) (x : ℕ) (xs : List ℕ) → kept_all low_part s (bits_of_words (x ∷ xs)) ≡ kept_all low_part (kept_all low_part s (low_bits 64 x)) (bits_of_words xs)
word_first s x xs = kept_all-append low_part s (low_bits 64 x) (bits_of_words xs)

-- a word that is added leaves what it leaves with the words behind it zero
added_leaves : (place word : ℕ) (s : List Bool) (xs : List ℕ) → length s ≡ 16 → place < length xs
    → kept_all low_part s (bits_of_words (with_added place word xs))
    ≡ added (moved (64 * (length xs - (place + 1))) (left_of (low_bits 64 word))) (kept_all low_part s (bits_of_words xs))
unfolding with_added
added_leaves place word s [] is within = absurd (omega arith)
added_leaves zero word s (x ∷ xs) is within =
    let a : List Bool = low_bits 64 word in
    let b : List Bool = low_bits 64 x in
    let same : length a ≡ length b = length-low_bits 64 word ∙ sym (length-low_bits 64 x) in
    let size : length (bits_of_words xs) ≡ 64 * (length (x ∷ xs) - (0 + 1)) = omega (arith, length-words xs) in
    word_first s (bit_xor x word) xs
    ∙ ap (λ (w : List Bool). kept_all low_part (kept_all low_part s w) (bits_of_words xs)) (low_bits-xor 64 x word ∙ added-comm b a)
    ∙ ap (λ (w : List Bool). kept_all low_part (kept_all low_part w (added a b)) (bits_of_words xs)) (sym (zeros-added 16 s (omega arith)))
    ∙ ap (λ (w : List Bool). kept_all low_part w (bits_of_words xs)) (kept_all-added low_part (zeros 16) s a b refl is same (omega arith))
    ∙ apart_from (left_of a) (kept_all low_part s b) (bits_of_words xs) (length-left_of a) (length-kept_all low_part s b is)
    ∙ ap (λ (k : ℕ). added (moved k (left_of a)) (kept_all low_part (kept_all low_part s b) (bits_of_words xs))) size
    ∙ ap (added (moved (64 * (length (x ∷ xs) - (0 + 1))) (left_of a))) (sym (word_first s x xs))
added_leaves (suc place) word s (x ∷ xs) is within =
    let b : List Bool = low_bits 64 x in
    let size : length xs - (place + 1) ≡ length (x ∷ xs) - (suc place + 1) = omega arith in
    word_first s x (with_added place word xs)
    ∙ added_leaves place word (kept_all low_part s b) xs (length-kept_all low_part s b is) (omega arith)
    ∙ ap (λ (k : ℕ). added (moved (64 * k) (left_of (low_bits 64 word))) (kept_all low_part (kept_all low_part s b) (bits_of_words xs))) size
    ∙ ap (added (moved (64 * (length (x ∷ xs) - (suc place + 1))) (left_of (low_bits 64 word)))) (sym (word_first s x xs))

-- a word that is added 1, 14 and 16 places behind the front
abbrev pub fold_word : ℕ → List ℕ → List ℕ
fold_word word xs = with_added 0 word (with_added 13 word (with_added 15 word xs))

one_folded : (word : ℕ) (xs : List ℕ) → 16 ≤ length xs → left_of (bits_of_words (word ∷ xs)) ≡ left_of (bits_of_words (fold_word word xs))
one_folded word xs long =
    let k : List Bool = left_of (low_bits 64 word) in
    let n : ℕ = length xs in
    let m : ℕ = 64 * (n - 16) in
    let rest : List Bool = left_of (bits_of_words xs) in
    let last : List ℕ = with_added 15 word xs in
    let two : List ℕ = with_added 13 word last in
    let size : length k ≡ 16 = length-left_of (low_bits 64 word) in
    let one_size : length last ≡ n = length-with_added 15 word xs in
    let two_size : length two ≡ n = length-with_added 13 word last ∙ one_size in
    let all : length (bits_of_words xs) ≡ 1024 + m = omega (arith, length-words xs) in
    let first : 960 + m ≡ 64 * (length two - (0 + 1)) = omega arith in
    let second : 128 + m ≡ 64 * (length last - (13 + 1)) = omega arith in
    word_first (zeros 16) word xs
    ∙ ap (λ (s : List Bool). kept_all low_part s (bits_of_words xs)) (sym (no_more k size))
    ∙ apart_from k (zeros 16) (bits_of_words xs) size refl
    ∙ ap (λ (j : ℕ). added (moved j k) rest) all
    ∙ ap (λ (w : List Bool). added w rest) (sym (moved_again 1024 m k) ∙ further_folded m k size (all_folded (low_bits 64 word)))
    ∙ added-assoc (moved m (moved 960 k)) (added (moved m (moved 128 k)) (moved m k)) rest
    ∙ ap (added (moved m (moved 960 k))) (added-assoc (moved m (moved 128 k)) (moved m k) rest)
    ∙ ap (λ (w : List Bool). added (moved m (moved 960 k)) (added (moved m (moved 128 k)) w)) (sym (added_leaves 15 word (zeros 16) xs refl (omega arith)))
    ∙ ap (λ (w : List Bool). added (moved m (moved 960 k)) (added w (left_of (bits_of_words last)))) (moved_again 128 m k ∙ ap (λ (j : ℕ). moved j k) second)
    ∙ ap (added (moved m (moved 960 k))) (sym (added_leaves 13 word (zeros 16) last refl (omega arith)))
    ∙ ap (λ (w : List Bool). added w (left_of (bits_of_words two))) (moved_again 960 m k ∙ ap (λ (j : ℕ). moved j k) first)
    ∙ sym (added_leaves 0 word (zeros 16) two refl (omega arith))

-- so many words, one after the other
unfoldable pub fold_words : ℕ → List ℕ → List ℕ
fold_words zero xs = xs
fold_words (suc count) [] = []
fold_words (suc count) (word ∷ xs) = fold_words count (fold_word word xs)

pub words_folded : (count : ℕ) (xs : List ℕ) → count + 16 ≤ length xs → left_of (bits_of_words xs) ≡ left_of (bits_of_words (fold_words count xs))
unfolding fold_words
words_folded zero xs long = refl
words_folded (suc count) [] long = absurd (omega arith)
words_folded (suc count) (word ∷ xs) long =
    let last : List ℕ = with_added 15 word xs in
    let size : length (fold_word word xs) ≡ length xs =
    length-with_added 0 word (with_added 13 word last) ∙ length-with_added 13 word last ∙ length-with_added 15 word xs in
    one_folded word xs (omega arith) ∙ words_folded count (fold_word word xs) (omega arith)
