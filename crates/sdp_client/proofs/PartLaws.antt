-- What a reply with a part of an answer says.
use Rattle.std.proofs.Common.{◌≡◌, ℕ, ◌+◌, ◌-◌, ◌^◌, ◌<◌, ◌≤◌, Bool, true, false, cond, List, [], ◌∷◌, ◌++◌, length, take, drop, Option, Some, None, refl, sym, ap, ◌∙◌, arith}
use Rattle.std.specs.Prelude.{◌&&◌, ◌==◌, not, nat_le, nat_lt}
use Rattle.std.proofs.lemmas.Bool.{eq-eqb, ne_eqb, le-leb, lt-ltb, cond-true, cond-false}
use Rattle.std.proofs.lemmas.Bool.Decides.{eqb_tells}
use Rattle.std.proofs.Common.{inl, inr}
use Rattle.std.proofs.lemmas.List.{length-append, length-take, length-drop, take_at, drop_at}
use Rattle.bt_base.specs.Octets.{be16}
use Rattle.bt_base.proofs.OctetLemmas.{be16-number}
use Rattle.byteorder.specs.Endian.{big_number}
use Rattle.sdp_elements.specs.Exchange.{pdu_octets, continuation_at, continuation_in, offset_in, part_parameters}
use Rattle.sdp_elements.specs.Optional.{◌>>=◌}
use Rattle.sdp_elements.proofs.PduLaws.{both_true, pdu_again, continuation_again}
use Rattle.sdp_client.specs.Replies.{PlainPart, Gives, goes_on, counted_part, part_in, given, said_by, said_in, is_of_another}

and_false : (p q : Bool) → q ≡ false → (p && q) ≡ false
and_false true q f = f
and_false false q f = refl

pub own_reply : (identifier transaction : ℕ) (parameters : List ℕ) → transaction < 2 ^ 16 → is_of_another (pdu_octets identifier transaction parameters) transaction ≡ false
own_reply identifier transaction parameters t =
    let octets = pdu_octets identifier transaction parameters in
    let named : big_number 2 (drop 1 octets) ≡ transaction = be16-number transaction (be16 (length parameters) ++ parameters) t in
    and_false (nat_le 3 (length octets)) (not (big_number 2 (drop 1 octets) == transaction)) (ap not (eq-eqb (big_number 2 (drop 1 octets)) transaction named))

-- ---- continuation states

-- the state behind the octets up to a place
abbrev pub state_at : ℕ → ℕ → List ℕ
state_at len place = cond (place == len) [] (be16 place)

pub state_octets : (len place : ℕ) → continuation_at len place ≡ length (state_at len place) ∷ state_at len place
state_octets len place =
    elim (eqb_tells place len) [
      | inl at ↦ cond-true (place == len) (0 ∷ []) (2 ∷ be16 place) at.0 ∙ sym (ap (λ (s : List ℕ). length s ∷ s) (cond-true (place == len) [] (be16 place) at.0))
      | inr before ↦ cond-false (place == len) (0 ∷ []) (2 ∷ be16 place) before.0 ∙ sym (ap (λ (s : List ℕ). length s ∷ s) (cond-false (place == len) [] (be16 place) before.0))
    ]

of_test : (test : Bool) (place : ℕ) → length (cond test [] (be16 place)) ≤ 2
of_test true place = omega arith
of_test false place = omega arith

pub state_fits : (len place : ℕ) → length (state_at len place) ≤ 2
state_fits len place = of_test (place == len) place

pub state_last : (len place : ℕ) → place ≡ len → state_at len place ≡ []
state_last len place e = cond-true (place == len) [] (be16 place) (eq-eqb place len e)

pub state_within : (len place : ℕ) → place < len → state_at len place ≡ be16 place
state_within len place h = cond-false (place == len) [] (be16 place) (ne_eqb place len (λ e. omega arith))

-- the place again from its state
pub offset_again : (len place : ℕ) → 0 < place → place < len → len < 2 ^ 16 → offset_in (be16 place) len ≡ Some place
offset_again len place some within fits =
    let named : big_number 2 (be16 place) ≡ place = be16-number place [] (omega arith) in
    let test = both_true (nat_lt 0 (big_number 2 (be16 place))) (nat_lt (big_number 2 (be16 place)) len) (ap (nat_lt 0) named ∙ lt-ltb 0 place some) (ap (λ (n : ℕ). nat_lt n len) named ∙ lt-ltb place len within) in
    cond-true (nat_lt 0 (big_number 2 (be16 place)) && nat_lt (big_number 2 (be16 place)) len) (Some (big_number 2 (be16 place))) None test ∙ ap (λ (n : ℕ). Some n) named

-- ---- a part again from its octets

some_goes_on : (count : ℕ) (state : List ℕ) → 0 < count → goes_on count state ≡ true
some_goes_on count state h = ap (λ (b : Bool). not (b && not (length state == 0))) (ne_eqb count 0 (λ e. omega arith))

counted_again : (octets state : List ℕ) → 0 < length octets → length state ≤ 16 → counted_part (length octets) (octets ++ (length state ∷ state)) ≡ Some (record { octets = octets; continuation = state })
counted_again octets state some fits =
    let n = length octets in
    let rest = octets ++ (length state ∷ state) in
    let part = λ (o s : List ℕ). let p : PlainPart = record { octets = o; continuation = s } in p in
    let none : Option PlainPart = None in
    ap (λ (x : List ℕ). continuation_in x >>= λ s. cond (goes_on n s) (Some (part (take n rest) s)) none) (drop_at octets (length state ∷ state) n refl)
    ∙ ap (λ (o : Option (List ℕ)). o >>= λ s. cond (goes_on n s) (Some (part (take n rest) s)) none) (continuation_again state fits)
    ∙ cond-true (goes_on n state) (Some (part (take n rest) state)) none (some_goes_on n state some)
    ∙ ap (λ (x : List ℕ). Some (part x state)) (take_at octets (length state ∷ state) n refl)

pub part_again : (octets state : List ℕ) → 0 < length octets → length octets < 2 ^ 16 → length state ≤ 16 → part_in (be16 (length octets) ++ (octets ++ (length state ∷ state))) ≡ Some (record { octets = octets; continuation = state })
part_again octets state some count fits =
    let n = length octets in
    let rest = octets ++ (length state ∷ state) in
    let parameters = be16 n ++ rest in
    let none : Option PlainPart = None in
    let named : big_number 2 parameters ≡ n = be16-number n rest count in
    let len = length-append octets (length state ∷ state) in
    let room : big_number 2 parameters ≤ length parameters - 2 = omega (arith, named, len) in
    let test = both_true (nat_le 2 (length parameters)) (nat_le (big_number 2 parameters) (length parameters - 2)) (le-leb 2 (length parameters) (omega arith)) (le-leb (big_number 2 parameters) (length parameters - 2) room) in
    cond-true (nat_le 2 (length parameters) && nat_le (big_number 2 parameters) (length parameters - 2)) (counted_part (big_number 2 parameters) rest) none test
    ∙ ap (λ (k : ℕ). counted_part k rest) named
    ∙ counted_again octets state some fits

-- ---- the reply with the next part

parameters_are : (octets : List ℕ) (offset n : ℕ) → offset + n ≤ length octets
    → part_parameters octets offset n ≡ be16 (length (take n (drop offset octets))) ++ (take n (drop offset octets) ++ (length (state_at (length octets) (offset + n)) ∷ state_at (length octets) (offset + n)))
parameters_are octets offset n h =
    let piece = take n (drop offset octets) in
    let len : n ≡ length piece = omega (arith, length-take n (drop offset octets), length-drop offset octets) in
    ap (λ (k : ℕ). be16 k ++ (piece ++ continuation_at (length octets) (offset + n))) len ∙ ap (λ (x : List ℕ). be16 (length piece) ++ (piece ++ x)) (state_octets (length octets) (offset + n))

pub part_said : (transaction : ℕ) (octets : List ℕ) (offset n : ℕ) → transaction < 2 ^ 16 → 0 < n → offset + n ≤ length octets → length octets ≤ 4096
    → said_in (pdu_octets 7 transaction (part_parameters octets offset n)) ≡ Gives (record { octets = take n (drop offset octets); continuation = state_at (length octets) (offset + n) })
part_said transaction octets offset n t some h fits =
    let piece = take n (drop offset octets) in
    let state = state_at (length octets) (offset + n) in
    let parameters = part_parameters octets offset n in
    let len : length piece ≡ n = omega (arith, length-take n (drop offset octets), length-drop offset octets) in
    let short = state_fits (length octets) (offset + n) in
    let size : length parameters < 2 ^ 16 = omega (arith, ap length (parameters_are octets offset n h), length-append piece (length state ∷ state)) in
    ap said_by (pdu_again 7 transaction parameters t size)
    ∙ ap (λ (x : List ℕ). given (part_in x)) (parameters_are octets offset n h)
    ∙ ap given (part_again piece state (omega arith) (omega arith) (omega arith))
