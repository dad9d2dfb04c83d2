-- Which changes the check word of RFCOMM sees.
use Rattle.std.proofs.Common.{◌≡◌, ℕ, ◌+◌, ◌-◌, ◌≤◌, Bool, true, false, not, List, [], ◌∷◌, ◌++◌, length, map, replicate, refl, sym, ap, ◌∙◌, arith, length-append}
use Rattle.std.proofs.lemmas.Grind.{flat_map-append}
use Rattle.std.proofs.lemmas.List.{append-nil}
use Rattle.check_words.specs.Division.{added, divided, remainder, zeros}
use Rattle.check_words.specs.CheckWords.{low_bits, bits_of, rfcomm_generator, rfcomm_rest, RfcommCheckHolds}
use Rattle.check_words.specs.Laws.{RfcommBurstsAreSeen, RfcommChangedOctetsAreSeen}
use Rattle.check_words.proofs.Sums.{length-added}
use Rattle.check_words.proofs.Steps.{divided-kept, length-kept_all}
use Rattle.check_words.proofs.Bursts.{bursts-same}
use Rattle.check_words.proofs.LowBits.{low_bits-same, length-low_bits}
use Rattle.check_words.proofs.RfcommWord.{low_part, rest_is_kept}

-- bits and their complement add up to ones
added-not : (bits : List Bool) → added bits (map not bits) ≡ replicate (length bits) true
unfolding added
added-not [] = refl
added-not (true ∷ bits) = ap (λ (xs : List Bool). true ∷ xs) (added-not bits)
added-not (false ∷ bits) = ap (λ (xs : List Bool). true ∷ xs) (added-not bits)

-- octets with their check word leave ones
leaves-ones : (octets : List ℕ) (word : ℕ) → RfcommCheckHolds octets word
    → remainder rfcomm_generator (added (replicate 8 true) (bits_of (octets ++ word ∷ []))) ≡ replicate 8 true
leaves-ones octets word holds =
    let ones : List Bool = replicate 8 true in
    let end : List Bool = low_bits 8 word in
    let bits : List Bool = bits_of octets in
    let parts : bits_of (octets ++ word ∷ []) ≡ bits ++ end = flat_map-append (low_bits 8) octets (word ∷ []) ∙ ap (λ (xs : List Bool). bits ++ xs) (append-nil end) in
    let size : length end ≡ 8 = length-low_bits 8 word in
    let all : length (added ones (bits ++ end)) ≡ length bits + 8 = length-added ones (bits ++ end) (omega (arith, length-append bits end)) ∙ length-append bits end ∙ ap (λ (k : ℕ). length bits + k) size in
    let steps : length (added ones (bits ++ end)) - 8 ≡ length bits = omega arith in
    let rest : List Bool = rfcomm_rest octets in
    let rest_size : length rest ≡ 8 = ap length (rest_is_kept octets) ∙ length-kept_all low_part ones bits refl in
    ap (λ (xs : List Bool). remainder rfcomm_generator (added ones xs)) parts
    ∙ ap (λ (k : ℕ). divided rfcomm_generator k (added ones (bits ++ end))) steps
    ∙ divided-kept low_part ones bits end refl (omega arith) (omega arith)
    ∙ ap (λ (xs : List Bool). added xs end) (sym (rest_is_kept octets))
    ∙ ap (added rest) holds
    ∙ added-not rest
    ∙ ap (λ (k : ℕ). replicate k true) rest_size

pub rfcomm_bursts-seen : RfcommBurstsAreSeen
rfcomm_bursts-seen octets octets' word word' front burst other behind parts parts' size size' differ holds holds' =
    let ones : List Bool = replicate 8 true in
    let within : 8 ≤ length (front ++ (burst ++ behind)) = omega (arith, length-append front (burst ++ behind), length-append burst behind) in
    differ (bursts-same (zeros 5 ++ true ∷ true ∷ []) ones front burst other behind size size' within
    (ap (λ (xs : List Bool). remainder rfcomm_generator (added ones xs)) (sym parts) ∙ leaves-ones octets word holds
    ∙ sym (leaves-ones octets' word' holds') ∙ ap (λ (xs : List Bool). remainder rfcomm_generator (added ones xs)) parts'))

octet_apart : (front behind : List ℕ) (octet : ℕ) → bits_of (front ++ octet ∷ behind) ≡ bits_of front ++ (low_bits 8 octet ++ bits_of behind)
octet_apart front behind octet = flat_map-append (low_bits 8) front (octet ∷ behind)

pub rfcomm_changed-seen : RfcommChangedOctetsAreSeen
rfcomm_changed-seen octets octets' front behind word word' octet octet' parts parts' small small' differ holds holds' =
    rfcomm_bursts-seen octets octets' word word' (bits_of front) (low_bits 8 octet) (low_bits 8 octet') (bits_of behind)
    (ap bits_of parts ∙ octet_apart front behind octet) (ap bits_of parts' ∙ octet_apart front behind octet')
    (length-low_bits 8 octet) (length-low_bits 8 octet') (λ same. differ (low_bits-same 8 octet octet' small small' same)) holds holds'
