-- Octets behind octets, and eight at a time.
use Rattle.std.proofs.Common.{◌≡◌, ℕ, zero, suc, ◌+◌, ◌-◌, ◌*◌, ◌/◌, ◌%◌, ◌<◌, ◌≤◌, Bool, List, [], ◌∷◌, ◌++◌, length, take, drop, get_or, replicate, bit_xor, refl, sym, ap, ◌∙◌, arith, length-append}
use Rattle.std.specs.Int.Bits.{xor_assoc, xor_zero_l, xor_zero_r}
use Rattle.std.specs.List.{slice_range}
use Rattle.std.proofs.Math.Seq.{take-add}
use Rattle.std.proofs.lemmas.Grind.{flat_map-append}
use Rattle.std.proofs.lemmas.Nat.{xor_comm}
use Rattle.std.proofs.lemmas.List.{drop_more, drop_all, take_rest, take-append-drop}
use Rattle.check_words.specs.Division.{added, remainder, zeros}
use Rattle.check_words.specs.CheckWords.{low_bits, bits_of, l2cap_generator, l2cap_check}
use Rattle.check_words.proofs.Sums.{added-assoc, added-append, added-front, zeros-added}
use Rattle.check_words.proofs.Steps.{kept, kept_all, remainder-from, kept_all-append}
use Rattle.check_words.proofs.LowBits.{length-low_bits, low_bits-xor, low_bits-mod, low_bits-halves}
use Rattle.check_words.proofs.CheckWord.{low_part, check_is_kept, kept_all-added}
use Rattle.check_words.proofs.Octets.{kept_all-octet}

-- ---- octets behind those of a word

-- what is left of octets behind those that a word is of
abbrev pub left_behind : ℕ → List ℕ → List Bool
left_behind word octets = remainder l2cap_generator (added (low_bits 16 word) (bits_of octets ++ zeros 16))

pub behind_is_kept : (word : ℕ) (octets : List ℕ) → left_behind word octets ≡ kept_all low_part (low_bits 16 word) (bits_of octets)
behind_is_kept word octets = remainder-from low_part (low_bits 16 word) (bits_of octets) (length-low_bits 16 word) (omega arith)

pub none_behind : (word : ℕ) → low_bits 16 word ≡ left_behind word []
unfolding kept_all
none_behind word = sym (behind_is_kept word [])

pub one_behind : (start : ℕ) (octets : List ℕ) (i octet word next : ℕ) → i < length octets → octet ≡ get_or octets i 0
    → low_bits 16 word ≡ left_behind start (take i octets)
    → low_bits 16 next ≡ remainder l2cap_generator (added (low_bits 16 word) (low_bits 8 octet ++ zeros 16))
    → low_bits 16 next ≡ left_behind start (take (i + 1) octets)
one_behind start octets i octet word next within is before after =
    after
    ∙ remainder-from low_part (low_bits 16 word) (low_bits 8 octet) (length-low_bits 16 word) (omega arith)
    ∙ ap (λ (s : List Bool). kept_all low_part s (low_bits 8 octet)) (before ∙ behind_is_kept start (take i octets))
    ∙ sym (kept_all-octet low_part (low_bits 16 start) octets i octet within is)
    ∙ sym (behind_is_kept start (take (i + 1) octets))

-- octets behind those of a word that is left of others
further_behind : (start : ℕ) (front octets : List ℕ) (word next : ℕ) → low_bits 16 word ≡ left_behind start front
    → low_bits 16 next ≡ left_behind word octets → low_bits 16 next ≡ left_behind start (front ++ octets)
further_behind start front octets word next before after =
    after
    ∙ behind_is_kept word octets
    ∙ ap (λ (s : List Bool). kept_all low_part s (bits_of octets)) (before ∙ behind_is_kept start front)
    ∙ sym (kept_all-append low_part (low_bits 16 start) (bits_of front) (bits_of octets))
    ∙ ap (kept_all low_part (low_bits 16 start)) (sym (flat_map-append (low_bits 8) front octets))
    ∙ sym (behind_is_kept start (front ++ octets))

pub all_behind : (front octets : List ℕ) (word next : ℕ) → low_bits 16 word ≡ l2cap_check front
    → low_bits 16 next ≡ left_behind word octets → low_bits 16 next ≡ l2cap_check (front ++ octets)
all_behind front octets word next before after =
    after
    ∙ behind_is_kept word octets
    ∙ ap (λ (s : List Bool). kept_all low_part s (bits_of octets)) (before ∙ check_is_kept front)
    ∙ sym (kept_all-append low_part (zeros 16) (bits_of front) (bits_of octets))
    ∙ ap (kept_all low_part (zeros 16)) (sym (flat_map-append (low_bits 8) front octets))
    ∙ sym (check_is_kept (front ++ octets))

-- ---- one octet apart from those behind it

bits_of-zeros : (octets : List ℕ) → length (bits_of (replicate (length octets) 0)) ≡ length (bits_of octets)
bits_of-zeros [] = refl
bits_of-zeros (octet ∷ octets) =
    length-append (low_bits 8 0) (bits_of (replicate (length octets) 0))
    ∙ ap (λ (k : ℕ). length (low_bits 8 0) + k) (bits_of-zeros octets)
    ∙ ap (λ (k : ℕ). k + length (bits_of octets)) (length-low_bits 8 0 ∙ sym (length-low_bits 8 octet))
    ∙ sym (length-append (low_bits 8 octet) (bits_of octets))

octet_sum : (first second : ℕ) → added (low_bits 8 first) (low_bits 8 second) ≡ low_bits 8 (bit_xor first second)
octet_sum first second = sym (low_bits-xor 8 first second)

same_octets : (first second : ℕ) → length (low_bits 8 first) ≡ length (low_bits 8 second)
same_octets first second = length-low_bits 8 first ∙ sym (length-low_bits 8 second)

nothing_added : (octets : List ℕ) → added (bits_of (replicate (length octets) 0)) (bits_of octets) ≡ bits_of octets
unfolding added
nothing_added [] = refl
nothing_added (octet ∷ octets) =
    let zero_front : added (low_bits 8 0) (low_bits 8 octet) ≡ low_bits 8 octet = octet_sum 0 octet ∙ ap (low_bits 8) (xor_zero_l octet) in
    added-append (low_bits 8 0) (low_bits 8 octet) (bits_of (replicate (length octets) 0)) (bits_of octets) (same_octets 0 octet)
    ∙ ap (λ (w : List Bool). w ++ added (bits_of (replicate (length octets) 0)) (bits_of octets)) zero_front
    ∙ ap (λ (w : List Bool). low_bits 8 octet ++ w) (nothing_added octets)

-- zeros in front of octets are no change
zero_in_front : (octets : List ℕ) → kept_all low_part (zeros 16) (bits_of (0 ∷ octets)) ≡ kept_all low_part (zeros 16) (bits_of octets)
unfolding low_bits kept kept_all added
zero_in_front octets = refl

apart : (octet : ℕ) (octets : List ℕ) → l2cap_check (octet ∷ octets) ≡ added (l2cap_check (octet ∷ replicate (length octets) 0)) (l2cap_check octets)
apart octet octets =
    let nothing : List ℕ = replicate (length octets) 0 in
    let alone : List Bool = bits_of (octet ∷ nothing) in
    let others : List Bool = bits_of (0 ∷ octets) in
    let first : added (low_bits 8 octet) (low_bits 8 0) ≡ low_bits 8 octet = octet_sum octet 0 ∙ ap (low_bits 8) (xor_zero_r octet) in
    let sums : added alone others ≡ bits_of (octet ∷ octets) =
    added-append (low_bits 8 octet) (low_bits 8 0) (bits_of nothing) (bits_of octets) (same_octets octet 0)
    ∙ ap (λ (w : List Bool). w ++ added (bits_of nothing) (bits_of octets)) first
    ∙ ap (λ (w : List Bool). low_bits 8 octet ++ w) (nothing_added octets) in
    let size : length alone ≡ length others =
    length-append (low_bits 8 octet) (bits_of nothing)
    ∙ ap (λ (k : ℕ). k + length (bits_of nothing)) (same_octets octet 0)
    ∙ ap (λ (k : ℕ). length (low_bits 8 0) + k) (bits_of-zeros octets)
    ∙ sym (length-append (low_bits 8 0) (bits_of octets)) in
    let none : added (zeros 16) (zeros 16) ≡ zeros 16 = zeros-added 16 (zeros 16) (omega arith) in
    check_is_kept (octet ∷ octets)
    ∙ ap (kept_all low_part (zeros 16)) (sym sums)
    ∙ ap (λ (s : List Bool). kept_all low_part s (added alone others)) (sym none)
    ∙ kept_all-added low_part (zeros 16) (zeros 16) alone others refl refl size (omega arith)
    ∙ ap (added (kept_all low_part (zeros 16) alone)) (zero_in_front octets ∙ sym (check_is_kept octets))
    ∙ ap (λ (w : List Bool). added w (l2cap_check octets)) (sym (check_is_kept (octet ∷ nothing)))

-- the sum that has come together, with the word of one octet more
one_more : (word entry octet : ℕ) (octets : List ℕ) → low_bits 16 entry ≡ l2cap_check (octet ∷ replicate (length octets) 0)
    → added (low_bits 16 word) (l2cap_check (octet ∷ octets)) ≡ added (low_bits 16 (bit_xor word entry)) (l2cap_check octets)
one_more word entry octet octets is =
    ap (added (low_bits 16 word)) (apart octet octets ∙ ap (λ (w : List Bool). added w (l2cap_check octets)) (sym is))
    ∙ sym (added-assoc (low_bits 16 word) (low_bits 16 entry) (l2cap_check octets))
    ∙ ap (λ (w : List Bool). added w (l2cap_check octets)) (sym (low_bits-xor 16 word entry))

-- ---- eight octets

-- a word in front of octets is one that is added to the first two of them
in_front : (word a b : ℕ) (octets : List ℕ) → left_behind word (a ∷ b ∷ octets) ≡ l2cap_check (bit_xor (word % 256) a ∷ bit_xor (word / 256) b ∷ octets)
in_front word a b octets =
    let low : List Bool = low_bits 8 word in
    let high : List Bool = low_bits 8 (word / 256) in
    let behind : List Bool = low_bits 8 b ++ bits_of octets in
    let first : added low (low_bits 8 a) ≡ low_bits 8 (bit_xor (word % 256) a) =
    ap (λ (w : List Bool). added w (low_bits 8 a)) (sym (low_bits-mod 8 word)) ∙ octet_sum (word % 256) a in
    let second : added high behind ≡ bits_of (bit_xor (word / 256) b ∷ octets) =
    added-front high (low_bits 8 b) (bits_of octets) (omega (arith, same_octets (word / 256) b))
    ∙ ap (λ (w : List Bool). w ++ bits_of octets) (octet_sum (word / 256) b) in
    let both : added (low_bits 16 word) (bits_of (a ∷ b ∷ octets)) ≡ bits_of (bit_xor (word % 256) a ∷ bit_xor (word / 256) b ∷ octets) =
    ap (λ (w : List Bool). added w (bits_of (a ∷ b ∷ octets))) (low_bits-halves word)
    ∙ added-append low (low_bits 8 a) high behind (same_octets word a)
    ∙ ap (λ (w : List Bool). w ++ added high behind) first
    ∙ ap (λ (w : List Bool). low_bits 8 (bit_xor (word % 256) a) ++ w) second in
    let long : length (low_bits 16 word) ≤ length (bits_of (a ∷ b ∷ octets)) =
    omega (arith, length-low_bits 16 word, length-low_bits 8 a, length-low_bits 8 b, length-append (low_bits 8 a) behind, length-append (low_bits 8 b) (bits_of octets)) in
    ap (remainder l2cap_generator) (added-front (low_bits 16 word) (bits_of (a ∷ b ∷ octets)) (zeros 16) long ∙ ap (λ (w : List Bool). w ++ zeros 16) both)

-- so many elements from one on
abbrev pub elements : ℕ → ℕ → List ℕ → List ℕ
elements zero i xs = []
elements (suc count) i xs = get_or xs i 0 ∷ elements count (i + 1) xs

pub all_elements : (count i : ℕ) (xs : List ℕ) → length xs ≡ i + count → drop i xs ≡ elements count i xs
all_elements zero i xs long = drop_all i xs (omega arith)
all_elements (suc count) i xs long =
    drop_more xs i 0 (omega arith) ∙ ap (λ (ys : List ℕ). get_or xs i 0 ∷ ys) (all_elements count (i + 1) xs (omega arith))

-- the word of an octet with so many zero octets behind it
abbrev pub IsBehind : ℕ → ℕ → ℕ → Type 0
IsBehind word octet count = low_bits 16 word ≡ l2cap_check (octet ∷ replicate count 0)

passed_over : (a b c : ℕ) → bit_xor (bit_xor a b) c ≡ bit_xor a (bit_xor c b)
passed_over a b c = xor_assoc a b c ∙ ap (bit_xor a) (xor_comm b c)

-- eight words that are added from the last one on
turned : (s t u v w x y z : ℕ)
    → bit_xor (bit_xor (bit_xor (bit_xor (bit_xor (bit_xor (bit_xor z y) x) w) v) u) t) s
    ≡ bit_xor (bit_xor (bit_xor (bit_xor (bit_xor (bit_xor (bit_xor s t) u) v) w) x) y) z
turned s t u v w x y z =
    let st : ℕ = bit_xor s t in
    let su : ℕ = bit_xor st u in
    let sv : ℕ = bit_xor su v in
    let sw : ℕ = bit_xor sv w in
    let sx : ℕ = bit_xor sw x in
    let zy : ℕ = bit_xor z y in
    let zx : ℕ = bit_xor zy x in
    let zw : ℕ = bit_xor zx w in
    let zv : ℕ = bit_xor zw v in
    let zu : ℕ = bit_xor zv u in
    passed_over zu t s
    ∙ passed_over zv u st
    ∙ passed_over zw v su
    ∙ passed_over zx w sv
    ∙ passed_over zy x sw
    ∙ passed_over z y sx
    ∙ xor_comm z (bit_xor sx y)

pub eight_behind : (word : ℕ) (octets : List ℕ) (s t u v w x y z : ℕ) → length octets ≡ 8
    → IsBehind s (bit_xor (word % 256) (get_or octets 0 0)) 7 → IsBehind t (bit_xor (word / 256) (get_or octets 1 0)) 6
    → IsBehind u (get_or octets 2 0) 5 → IsBehind v (get_or octets 3 0) 4 → IsBehind w (get_or octets 4 0) 3
    → IsBehind x (get_or octets 5 0) 2 → IsBehind y (get_or octets 6 0) 1 → low_bits 16 z ≡ l2cap_check (get_or octets 7 0 ∷ [])
    → low_bits 16 (bit_xor (bit_xor (bit_xor (bit_xor (bit_xor (bit_xor (bit_xor z y) x) w) v) u) t) s) ≡ left_behind word octets
eight_behind word octets s t u v w x y z long is-s is-t is-u is-v is-w is-x is-y is-z =
    let at : ℕ → ℕ = λ (i : ℕ). get_or octets i 0 in
    let first : ℕ = bit_xor (word % 256) (at 0) in
    let second : ℕ = bit_xor (word / 256) (at 1) in
    let st : ℕ = bit_xor s t in
    let su : ℕ = bit_xor st u in
    let sv : ℕ = bit_xor su v in
    let sw : ℕ = bit_xor sv w in
    let sx : ℕ = bit_xor sw x in
    let sy : ℕ = bit_xor sx y in
    ap (low_bits 16) (turned s t u v w x y z)
    ∙ sym (ap (left_behind word) (all_elements 8 0 octets long)
    ∙ in_front word (at 0) (at 1) (elements 6 2 octets)
    ∙ apart first (second ∷ elements 6 2 octets)
    ∙ ap (λ (k : List Bool). added k (l2cap_check (second ∷ elements 6 2 octets))) (sym is-s)
    ∙ one_more s t second (elements 6 2 octets) is-t
    ∙ one_more st u (at 2) (elements 5 3 octets) is-u
    ∙ one_more su v (at 3) (elements 4 4 octets) is-v
    ∙ one_more sv w (at 4) (elements 3 5 octets) is-w
    ∙ one_more sw x (at 5) (elements 2 6 octets) is-x
    ∙ one_more sx y (at 6) (elements 1 7 octets) is-y
    ∙ ap (added (low_bits 16 sy)) (sym is-z)
    ∙ sym (low_bits-xor 16 sy z))

-- ---- octets up to a place

-- the octets up to a place, and so many from there on
pub up_to : (octets : List ℕ) (n count : ℕ) → take n octets ++ slice_range octets n (n + count) ≡ take (n + count) octets
up_to octets n count =
    let size : n + count - n ≡ count = omega arith in
    ap (λ (k : ℕ). take n octets ++ take k (drop n octets)) size ∙ sym (take-add n count octets)

pub to_the_end : (octets : List ℕ) (n : ℕ) → take n octets ++ slice_range octets n (length octets) ≡ octets
to_the_end octets n = ap (λ (xs : List ℕ). take n octets ++ xs) (take_rest octets n) ∙ take-append-drop n octets

pub eight_more : (start : ℕ) (octets : List ℕ) (eight word next : ℕ) → low_bits 16 word ≡ left_behind start (take (8 * eight) octets)
    → low_bits 16 next ≡ left_behind word (slice_range octets (8 * eight) (8 * eight + 8))
    → low_bits 16 next ≡ left_behind start (take (8 * (eight + 1)) octets)
eight_more start octets eight word next before after =
    let n : ℕ = 8 * eight in
    let further : n + 8 ≡ 8 * (eight + 1) = omega arith in
    further_behind start (take n octets) (slice_range octets n (n + 8)) word next before after
    ∙ ap (left_behind start) (up_to octets n 8 ∙ ap (λ (k : ℕ). take k octets) further)

pub rest_behind : (start : ℕ) (octets : List ℕ) (n word next : ℕ) → low_bits 16 word ≡ left_behind start (take n octets)
    → low_bits 16 next ≡ left_behind word (slice_range octets n (length octets)) → low_bits 16 next ≡ left_behind start octets
rest_behind start octets n word next before after =
    further_behind start (take n octets) (slice_range octets n (length octets)) word next before after ∙ ap (left_behind start) (to_the_end octets n)
