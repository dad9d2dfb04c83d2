-- Lines of signalling commands, one after the other.
use Rattle.std.proofs.Common.{◌≡◌, ◌==◌, false, ℕ, ◌+◌, ◌/◌, ◌%◌, ◌<◌, List, [], ◌∷◌, ◌++◌, length, get_or, take, refl, ap, sym, ◌∙◌, append_assoc, add-one, arith}
use Rattle.std.specs.Prelude.{slice_index}
use Rattle.std.specs.List.{flat_map}
use Rattle.std.proofs.Math.Seq.{take-suc}
use Rattle.std.proofs.lemmas.List.{append-nil, take_all}
use Rattle.hex.specs.Hex.{encode_with, encode_upper, upper_digits}
use Rattle.bt_base.specs.Octets.{le16}
use Rattle.l2cap_signal.proofs.Pieces.{words_more}
use Rattle.h4_view.specs.Texts.{octets_text}

-- digits of octets, and of those behind them
encode-append : (table a b : List ℕ) → encode_with table (a ++ b) ≡ encode_with table a ++ encode_with table b
unfolding encode_with
encode-append table [] b = refl
encode-append table (x ∷ a) b = ap (λ (t : List ℕ). encode_with table (x ∷ []) ++ t) (encode-append table a b)

-- no digits yet
pub parts_none : (old : List ℕ) → old ≡ old ++ encode_upper []
unfolding encode_with
parts_none old = sym (append-nil old)

-- the digits of one number more
pub parts_step : (ws : List ℕ) (i : ℕ) (old now new word : List ℕ) → i < length ws → now ≡ old ++ encode_upper (flat_map le16 (take i ws)) → word ≡ le16 (get_or ws i 0) → new ≡ now ++ encode_upper word
    → new ≡ old ++ encode_upper (flat_map le16 (take (i + 1) ws))
parts_step ws i old now new word lt so_far is wrote =
    wrote
    ∙ ap (λ (w : List ℕ). now ++ encode_upper w) is
    ∙ ap (λ (t : List ℕ). t ++ encode_upper (le16 (get_or ws i 0))) so_far
    ∙ append_assoc old (encode_upper (flat_map le16 (take i ws))) (encode_upper (le16 (get_or ws i 0)))
    ∙ ap (λ (t : List ℕ). old ++ t) (sym (encode-append upper_digits (flat_map le16 (take i ws)) (le16 (get_or ws i 0))))
    ∙ ap (λ (t : List ℕ). old ++ encode_upper t) (sym (words_more ws i lt))

some_parts : (ws rest : List ℕ) → false ≡ (length ws == 0) → octets_text (flat_map le16 ws ++ rest) ≡ encode_upper (flat_map le16 ws ++ rest)
some_parts [] rest some = absurd cc
some_parts (w ∷ ws) rest some = refl

-- the digits of all numbers, and of the octets behind them
pub parts_end : (ws rest : List ℕ) (i : ℕ) (old now new : List ℕ) → false ≡ (length ws == 0) → i ≡ length ws → now ≡ old ++ encode_upper (flat_map le16 (take i ws)) → new ≡ now ++ encode_upper rest
    → new ≡ old ++ octets_text (flat_map le16 ws ++ rest)
parts_end ws rest i old now new some at so_far wrote =
    wrote
    ∙ ap (λ (t : List ℕ). t ++ encode_upper rest) so_far
    ∙ ap (λ (t : List ℕ). (old ++ encode_upper (flat_map le16 t)) ++ encode_upper rest) (take_all i ws (omega (arith, at)))
    ∙ append_assoc old (encode_upper (flat_map le16 ws)) (encode_upper rest)
    ∙ ap (λ (t : List ℕ). old ++ t) (sym (encode-append upper_digits (flat_map le16 ws) rest) ∙ sym (some_parts ws rest some))

-- the digits of one octet more
pub digits_step : (octets : List ℕ) (i a b : ℕ) (old now mid new : List ℕ) → i < length octets → now ≡ old ++ encode_upper (take i octets) → mid ≡ now ++ a ∷ [] → new ≡ mid ++ b ∷ []
    → a ≡ slice_index upper_digits (get_or octets i 0 / 16) → b ≡ slice_index upper_digits (get_or octets i 0 % 16) → new ≡ old ++ encode_upper (take (i + 1) octets)
unfolding encode_with
digits_step octets i a b old now mid new lt so_far first second high low =
    let x : ℕ = get_or octets i 0 in
    second
    ∙ ap (λ (t : List ℕ). t ++ b ∷ []) first
    ∙ append_assoc now (a ∷ []) (b ∷ [])
    ∙ ap (λ (t : List ℕ). t ++ a ∷ b ∷ []) so_far
    ∙ ap (λ (n : ℕ). (old ++ encode_upper (take i octets)) ++ n ∷ b ∷ []) high
    ∙ ap (λ (n : ℕ). (old ++ encode_upper (take i octets)) ++ slice_index upper_digits (x / 16) ∷ n ∷ []) low
    ∙ append_assoc old (encode_upper (take i octets)) (encode_upper (x ∷ []))
    ∙ ap (λ (t : List ℕ). old ++ t) (sym (encode-append upper_digits (take i octets) (x ∷ [])))
    ∙ ap (λ (t : List ℕ). old ++ encode_upper t) (sym (ap (λ (n : ℕ). take n octets) (add-one i) ∙ take-suc octets i 0 lt))
