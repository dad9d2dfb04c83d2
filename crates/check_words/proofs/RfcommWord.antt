-- The check word of RFCOMM, an octet at a time.
use Rattle.std.proofs.Common.{◌≡◌, ℕ, ◌+◌, ◌<◌, Bool, true, false, not, List, [], ◌∷◌, ◌++◌, length, map, replicate, take, get_or, bit_xor, refl, sym, ap, ◌∙◌, arith}
use Rattle.std.proofs.lemmas.List.{append-nil, length-replicate}
use Rattle.check_words.specs.Division.{added, remainder, zeros}
use Rattle.check_words.specs.CheckWords.{low_bits, bits_of, rfcomm_generator, rfcomm_rest}
use Rattle.check_words.proofs.Sums.{plus-comm, zeros-added}
use Rattle.check_words.proofs.Steps.{kept_all, remainder-from, remainder-behind, length-kept_all}
use Rattle.check_words.proofs.LowBits.{low_bits-xor, length-low_bits}
use Rattle.check_words.proofs.CheckWord.{kept_all-front}
use Rattle.check_words.proofs.Octets.{kept_all-octet}

-- the generator without its highest coefficient
abbrev pub low_part : List Bool
low_part = zeros 5 ++ true ∷ true ∷ true ∷ []

pub rest_is_kept : (octets : List ℕ) → rfcomm_rest octets ≡ kept_all low_part (replicate 8 true) (bits_of octets)
rest_is_kept octets = remainder-from low_part (replicate 8 true) (bits_of octets) refl (omega arith)

-- all that is kept may be added to as many bits at once
kept_all-at_once : (low state bits : List Bool) → length state ≡ length bits → length state ≡ length low → 0 < length low
    → kept_all low state bits ≡ kept_all low (zeros (length low)) (added state bits)
kept_all-at_once low state bits same size some =
    let long : length (kept_all low (zeros (length low)) (added state bits)) ≡ length low = length-kept_all low (zeros (length low)) (added state bits) (length-replicate (length low) false) in
    let whole : length (state ++ []) ≡ length low = ap length (append-nil state) ∙ size in
    ap (λ (s : List Bool). kept_all low s bits) (sym (append-nil state))
    ∙ kept_all-front low state [] bits same whole some
    ∙ zeros-added (length bits) (kept_all low (zeros (length low)) (added state bits)) (omega arith)

-- a step over octets
pub rest_more : (octets : List ℕ) (i octet rest next : ℕ) → i < length octets → octet ≡ get_or octets i 0
    → low_bits 8 rest ≡ rfcomm_rest (take i octets)
    → low_bits 8 next ≡ remainder rfcomm_generator (bits_of (bit_xor rest octet ∷ []) ++ zeros 8)
    → low_bits 8 next ≡ rfcomm_rest (take (i + 1) octets)
rest_more octets i octet rest next within is before after =
    let bits : List Bool = low_bits 8 octet in
    let size : length (low_bits 8 rest) ≡ 8 = length-low_bits 8 rest in
    let same : length (low_bits 8 rest) ≡ length bits = size ∙ sym (length-low_bits 8 octet) in
    after
    ∙ remainder-behind low_part (bits_of (bit_xor rest octet ∷ [])) (omega arith)
    ∙ ap (kept_all low_part (zeros 8)) (append-nil (low_bits 8 (bit_xor rest octet)) ∙ low_bits-xor 8 rest octet)
    ∙ sym (kept_all-at_once low_part (low_bits 8 rest) bits same size (omega arith))
    ∙ ap (λ (s : List Bool). kept_all low_part s bits) (before ∙ rest_is_kept (take i octets))
    ∙ sym (kept_all-octet low_part (replicate 8 true) octets i octet within is)
    ∙ sym (rest_is_kept (take (i + 1) octets))

-- ones that are added invert
added-ones : (bits : List Bool) → added bits (replicate (length bits) true) ≡ map not bits
unfolding added
added-ones [] = refl
added-ones (b ∷ bits) = rw (plus-comm b true, added-ones bits) refl

pub inverted : (word : ℕ) → low_bits 8 (bit_xor word 0xFF) ≡ map not (low_bits 8 word)
unfolding low_bits
inverted word =
    let ones : low_bits 8 0xFF ≡ replicate (length (low_bits 8 word)) true = refl in
    low_bits-xor 8 word 0xFF ∙ ap (added (low_bits 8 word)) ones ∙ added-ones (low_bits 8 word)
