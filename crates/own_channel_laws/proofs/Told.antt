-- What is read of a payload on the signalling channel is one of these.
use Rattle.std.proofs.Common.{◌≡◌, ℕ, zero, suc, ◌<◌, List, [], ◌∷◌, length, Bool, true, false, cond, ◌||◌, eqb, Option, Some, None, Err, refl, arith}
use Rattle.std.specs.Prelude.{take, drop, nat_lt, slice_index, slice_get}
use Rattle.std.specs.List.{AllByRecursion}
use Rattle.std.proofs.lemmas.Bool.{eqb-true, ltb-true}
use Rattle.talk_laws.specs.l2cap_signal.specs.Commands.{Content}
use Rattle.talk_laws.specs.l2cap_signal.specs.Reading.{Answer, read_as, content_of, judged, word_at, first, answers_within, answers}
use Rattle.talk_laws.specs.l2cap_signal.specs.declared.refusal.SignalRefusal.TheVariants.{ZeroIdentifier, BadLength, UnknownCode, AboveMtu}
use Rattle.channel_model.specs.Answers.{kind_of_code}
use Rattle.channel_model.specs.Hearing.{is_kind}
use Rattle.own_channel_laws.proofs.Commands.{IsTold, no_kind}

not_code : (code n : ℕ) (same : Bool) → eqb code n ≡ same → (code ≡ n → ⊥) → same ≡ false
not_code code n false is never = refl
not_code code n true is never = elim (never (eqb-true code n is)) [ ]

none-kind : (code : ℕ) → (code ≡ 2 → ⊥) → (code ≡ 4 → ⊥) → (code ≡ 6 → ⊥) → (code ≡ 8 → ⊥) → (code ≡ 10 → ⊥) → is_kind (kind_of_code code) ≡ false
none-kind code two four six eight ten =
    no_kind (eqb code 2) (eqb code 4) (eqb code 6) (eqb code 8) (eqb code 10) (not_code code 2 (eqb code 2) refl two) (not_code code 4 (eqb code 4) refl four) (not_code code 6 (eqb code 6) refl six)
    (not_code code 8 (eqb code 8) refl eight) (not_code code 10 (eqb code 10) refl ten)

unknown-none : (code : ℕ) (none above : Bool) → eqb code 0 ≡ none → nat_lt 11 code ≡ above → (none || above) ≡ true → is_kind (kind_of_code code) ≡ false
unknown-none code true above is_none is_above either =
    let at : code ≡ 0 = eqb-true code 0 is_none in
    none-kind code (λ e. omega (arith, at, e)) (λ e. omega (arith, at, e)) (λ e. omega (arith, at, e)) (λ e. omega (arith, at, e)) (λ e. omega (arith, at, e))
unknown-none code false true is_none is_above either =
    let high : 11 < code = ltb-true 11 code is_above in
    none-kind code (λ e. omega (arith, high, e)) (λ e. omega (arith, high, e)) (λ e. omega (arith, high, e)) (λ e. omega (arith, high, e)) (λ e. omega (arith, high, e))
unknown-none code false false is_none is_above either = cc

read-told : (code identifier : ℕ) (found : Option Content) → IsTold (read_as code identifier found)
read-told code identifier None = tt
read-told code identifier (Some content) = tt

judged-by : (code identifier : ℕ) (payload : List ℕ) (zero_is unknown : Bool) → ((eqb code 0) || nat_lt 11 code) ≡ unknown
    → IsTold (cond zero_is (Err (ZeroIdentifier code (Some identifier))) (cond unknown (Err (UnknownCode code (Some identifier))) (read_as code identifier (content_of code payload))))
judged-by code identifier payload true unknown is = tt
judged-by code identifier payload false true is = unknown-none code (eqb code 0) (nat_lt 11 code) refl refl is
judged-by code identifier payload false false is = read-told code identifier (content_of code payload)

judged-told : (code identifier : ℕ) (payload : List ℕ) → IsTold (judged code identifier payload)
judged-told code identifier payload = judged-by code identifier payload (eqb identifier 0) ((eqb code 0) || nat_lt 11 code) refl

first-by : (code identifier : ℕ) (given : Option ℕ) (payload rest : List ℕ) (a b c : Bool)
    → (let nothing : Answer × List ℕ = (Err (BadLength code given), []) in
    let above : Answer × List ℕ = (Err (AboveMtu code given), []) in
    let whole : Answer × List ℕ = (judged code identifier payload, rest) in
    let answer : Answer × List ℕ = cond a above (cond b nothing (cond c nothing whole)) in IsTold answer.0)
first-by code identifier given payload rest true b c = tt
first-by code identifier given payload rest false true c = tt
first-by code identifier given payload rest false false true = tt
first-by code identifier given payload rest false false false = judged-told code identifier payload

first-told : (octets : List ℕ) → IsTold (first octets).0
unfolding first
first-told octets =
    first-by (slice_index octets 0) (slice_index octets 1) (slice_get octets 1) (take (word_at 2 octets) (drop 4 octets)) (drop (word_at 2 octets) (drop 4 octets))
    (nat_lt 672 (length octets)) (nat_lt (length octets) 4) (nat_lt (length (drop 4 octets)) (word_at 2 octets))

within-told : (n : ℕ) (octets : List ℕ) → AllByRecursion IsTold (answers_within n octets)
unfolding answers_within
within-told n [] = tt
within-told zero (o ∷ octets) = tt
within-told (suc n) (o ∷ octets) = (first-told (o ∷ octets), within-told n (first (o ∷ octets)).1)

pub all-told : (octets : List ℕ) → AllByRecursion IsTold (answers octets)
unfolding answers
all-told octets = within-told (length octets) octets
