-- Octets and their check words.
use Rattle.std.proofs.Common.{◌≡◌, ◌≢◌, ◌↔◌, ℕ, ◌+◌, ◌*◌, ◌/◌, ◌%◌, ◌^◌, ◌<◌, Bool, true, false, List, [], ◌∷◌, ◌++◌, length, take, get_or, refl, sym, ap, ◌∙◌, arith, append_assoc, inl, inr}
use Rattle.std.proofs.lemmas.Grind.{flat_map-append}
use Rattle.std.proofs.lemmas.List.{append-nil, take_more}
use Rattle.check_words.specs.Division.{added, remainder, zeros}
use Rattle.check_words.specs.CheckWords.{low_bits, bits_of, l2cap_generator, l2cap_check, L2capCheckHolds}
use Rattle.check_words.specs.Laws.{CheckWordsHold, ChangedOctetsAreSeen}
use Rattle.check_words.proofs.Sums.{added-zero, added-self}
use Rattle.check_words.proofs.Steps.{kept_all, remainder-kept, kept_all-append, length-kept_all}
use Rattle.check_words.proofs.Bursts.{bursts-seen}
use Rattle.check_words.proofs.LowBits.{low_bits-same, low_bits-mod, low_bits-halves}
use Rattle.check_words.proofs.CheckWord.{low_part, check_is_kept}

-- the bits that are kept after one octet more
pub kept_all-octet : (low state : List Bool) (octets : List ℕ) (i octet : ℕ) → i < length octets → octet ≡ get_or octets i 0
    → kept_all low state (bits_of (take (i + 1) octets)) ≡ kept_all low (kept_all low state (bits_of (take i octets))) (low_bits 8 octet)
kept_all-octet low state octets i octet within is =
    let front : List ℕ = take i octets in
    let bits : List Bool = low_bits 8 octet in
    let more : take (i + 1) octets ≡ front ++ octet ∷ [] = take_more octets i 0 within ∙ ap (λ (k : ℕ). front ++ k ∷ []) (sym is) in
    ap (λ (xs : List ℕ). kept_all low state (bits_of xs)) more
    ∙ ap (kept_all low state) (flat_map-append (low_bits 8) front (octet ∷ []))
    ∙ ap (λ (b : List Bool). kept_all low state (bits_of front ++ b)) (append-nil bits)
    ∙ kept_all-append low state (bits_of front) bits

-- ---- the laws

ends_with : (octets : List ℕ) (low high : ℕ)
    → remainder l2cap_generator (bits_of (octets ++ low ∷ high ∷ [])) ≡ added (l2cap_check octets) (bits_of (low ∷ high ∷ []))
unfolding low_bits
ends_with octets low high =
    ap (remainder l2cap_generator) (flat_map-append (low_bits 8) octets (low ∷ high ∷ []))
    ∙ remainder-kept low_part (bits_of octets) (bits_of (low ∷ high ∷ [])) refl (omega arith)
    ∙ ap (λ (w : List Bool). added w (bits_of (low ∷ high ∷ []))) (sym (check_is_kept octets))

length-check : (octets : List ℕ) → length (l2cap_check octets) ≡ 16
length-check octets = ap length (check_is_kept octets) ∙ length-kept_all low_part (zeros 16) (bits_of octets) refl

pub check_words-hold : CheckWordsHold
unfolding low_bits
check_words-hold octets low high =
    let word : List Bool = bits_of (low ∷ high ∷ []) in
    let size : length (l2cap_check octets) ≡ length word = length-check octets in (
      (λ holds. added-zero (l2cap_check octets) word size (sym (ends_with octets low high) ∙ holds ∙ ap (λ (k : ℕ). zeros k) (sym (length-check octets)))),
      (λ same. ends_with octets low high ∙ ap (λ (w : List Bool). added w word) same ∙ added-self word),
    )

two_octets : (front behind : List ℕ) (first second : ℕ)
    → bits_of (front ++ first ∷ second ∷ behind) ≡ bits_of front ++ ((low_bits 8 first ++ low_bits 8 second) ++ bits_of behind)
two_octets front behind first second =
    flat_map-append (low_bits 8) front (first ∷ second ∷ behind)
    ∙ ap (λ (w : List Bool). bits_of front ++ w) (sym (append_assoc (low_bits 8 first) (low_bits 8 second) (bits_of behind)))

parts_same : (a b c d : List Bool) → length a ≡ length c → a ++ b ≡ c ++ d → (a ≡ c) × (b ≡ d)
parts_same [] b [] d size e = (refl, e)
parts_same [] b (y ∷ c) d size e = absurd (omega arith)
parts_same (x ∷ a) b [] d size e = absurd (omega arith)
parts_same (x ∷ a) b (y ∷ c) d size e =
    let tails : a ++ b ≡ c ++ d = cc in
    let heads : x ≡ y = cc in
    let h = parts_same a b c d (omega arith) tails in
    (rw (heads, h.0) refl, h.1)

pub changed-seen : ChangedOctetsAreSeen
unfolding low_bits
changed-seen front behind first second first' second' f s f' s' differ before after =
    let burst : List Bool = low_bits 8 first ++ low_bits 8 second in
    let other : List Bool = low_bits 8 first' ++ low_bits 8 second' in
    let inner : List Bool = true ∷ (zeros 12 ++ true ∷ false ∷ []) in
    let differs : burst ≢ other = λ e.
    let h = parts_same (low_bits 8 first) (low_bits 8 second) (low_bits 8 first') (low_bits 8 second') refl e in
    elim differ [ inl n ↦ n (low_bits-same 8 first first' f f' h.0) | inr n ↦ n (low_bits-same 8 second second' s s' h.1) ] in
    bursts-seen inner (bits_of front) burst other (bits_of behind) refl refl differs
    (ap (remainder l2cap_generator) (sym (two_octets front behind first second)) ∙ before)
    (ap (remainder l2cap_generator) (sym (two_octets front behind first' second')) ∙ after)

-- ---- the two octets of a check word

pair_bits : (a b : ℕ) → a < 256 → b < 256 → low_bits 16 (a + 256 * b) ≡ bits_of (a ∷ b ∷ [])
pair_bits a b low high =
    let first : (a + 256 * b) % 2 ^ 8 ≡ a = omega arith in
    let second : (a + 256 * b) / 256 ≡ b = omega arith in
    low_bits-halves (a + 256 * b)
    ∙ ap (λ (w : List Bool). w ++ low_bits 8 ((a + 256 * b) / 256)) (sym (low_bits-mod 8 (a + 256 * b)) ∙ ap (low_bits 8) first)
    ∙ ap (λ (k : ℕ). low_bits 8 a ++ low_bits 8 k) second
    ∙ ap (λ (w : List Bool). low_bits 8 a ++ w) (sym (append-nil (low_bits 8 b)))

-- a check word of those octets holds behind them, and no other one
pub word-holds : (octets : List ℕ) (a b check : ℕ) → a < 256 → b < 256 → check < 2 ^ 16 → low_bits 16 check ≡ l2cap_check octets
    → L2capCheckHolds (octets ++ a ∷ b ∷ []) ↔ (check ≡ a + 256 * b)
word-holds octets a b check low high small is =
    let both = check_words-hold octets a b in (
      (λ holds. low_bits-same 16 check (a + 256 * b) small (omega arith) (is ∙ both.0 holds ∙ sym (pair_bits a b low high))),
      (λ same. both.1 (sym is ∙ ap (low_bits 16) same ∙ pair_bits a b low high)),
    )
