-- What is answered to a command that is there whole.
use Rattle.std.proofs.Common.{◌≡◌, ℕ, zero, suc, ◌^◌, ◌<◌, ◌≤◌, ◌⊎◌, true, false, eqb, ltb, List, length, Option, Some, None, Ok, Err, refl, sym, ap, subst, ◌∙◌, arith, inl, inr}
use Rattle.std.specs.Prelude.{◌||◌}
use Rattle.std.proofs.lemmas.Bool.{cases_lt, le-ltb, lt-ltb}
use Rattle.bt_base.specs.Octets.{IsOctets}
use Rattle.l2cap_signal.specs.declared.refusal.SignalRefusal.TheVariants.{ZeroIdentifier, BadLength, UnknownCode, AboveMtu}
use Rattle.l2cap_signal.specs.Commands.{Content, reject, connection_request, connection_response, configuration_request, configuration_response, disconnection_request, disconnection_response, echo_request, echo_response, information_request, information_response, code_of}
use Rattle.l2cap_signal.specs.Reading.{Answer, content_of, read_as, judged}
use Rattle.l2cap_signal.specs.Grammar.{Says, Judges}
use Rattle.l2cap_signal.proofs.Contents.{content_again, content_is}

-- the code of a command is one of the eleven
pub code_known : (what : Content) → (1 ≤ code_of what) × (code_of what ≤ 11)
code_known (reject reason rest) = (omega arith, omega arith)
code_known (connection_request psm source) = (omega arith, omega arith)
code_known (connection_response destination source answer status) = (omega arith, omega arith)
code_known (configuration_request destination flags options) = (omega arith, omega arith)
code_known (configuration_response source flags answer options) = (omega arith, omega arith)
code_known (disconnection_request destination source) = (omega arith, omega arith)
code_known (disconnection_response destination source) = (omega arith, omega arith)
code_known (echo_request octets) = (omega arith, omega arith)
code_known (echo_response octets) = (omega arith, omega arith)
code_known (information_request kind) = (omega arith, omega arith)
code_known (information_response kind answer rest) = (omega arith, omega arith)

says_read : (code : ℕ) (payload : List ℕ) (what : Content) → Says code payload what → content_of code payload ≡ Some what
says_read code payload what says = ap (λ (k : ℕ). content_of k payload) says.code_is ∙ ap (content_of (code_of what)) says.payload_is ∙ content_again what says.fits

-- ---- which way the tests go

judged_zero : (code identifier : ℕ) (payload : List ℕ) → identifier ≡ 0 → judged code identifier payload ≡ Err (ZeroIdentifier code (Some identifier))
judged_zero code zero payload e = refl
judged_zero code (suc i) payload e = absurd (omega arith)

above_zero : (n : ℕ) → 0 < n → eqb n 0 ≡ false
above_zero n pos = grind arith

unknown_code : (code : ℕ) → (code ≡ 0) ⊎ (11 < code) → (eqb code 0 || ltb 11 code) ≡ true
unknown_code zero h = refl
unknown_code (suc n) (inl e) = absurd (omega arith)
unknown_code (suc n) (inr lt) = let t = lt-ltb 11 (suc n) lt in grind arith

known_code : (code : ℕ) → 1 ≤ code → code ≤ 11 → (eqb code 0 || ltb 11 code) ≡ false
known_code zero low high = absurd (omega arith)
known_code (suc n) low high = let t = le-ltb 11 (suc n) high in grind arith

judged_unknown : (code identifier : ℕ) (payload : List ℕ) → 0 < identifier → (code ≡ 0) ⊎ (11 < code) → judged code identifier payload ≡ Err (UnknownCode code (Some identifier))
judged_unknown code identifier payload pos h = rw (above_zero identifier pos, unknown_code code h) refl

judged_known : (code identifier : ℕ) (payload : List ℕ) → 0 < identifier → 1 ≤ code → code ≤ 11 → judged code identifier payload ≡ read_as code identifier (content_of code payload)
judged_known code identifier payload pos low high = rw (above_zero identifier pos, known_code code low high) refl

-- ---- right, and nothing else

read_right : (code identifier : ℕ) (payload : List ℕ) (read : Option Content) → 0 < identifier → 1 ≤ code → code ≤ 11 → IsOctets payload → length payload < 2 ^ 16
    → content_of code payload ≡ read → Judges code identifier payload (read_as code identifier read)
read_right code identifier payload None pos low high fits small e =
    (refl, refl, pos, low, high, λ what says. let bad : None ≡ Some what = sym e ∙ says_read code payload what says in absurd cc)
read_right code identifier payload (Some what) pos low high fits small e = (refl, pos, content_is code payload low high fits small what e)

code_cases : (code : ℕ) → ((code ≡ 0) ⊎ (11 < code)) ⊎ ((1 ≤ code) × (code ≤ 11))
code_cases zero = inl (inl refl)
code_cases (suc n) = elim (cases_lt 11 (suc n)) [ inl lt ↦ inl (inr lt) | inr le ↦ inr (omega arith, le) ]

pub judged_right : (code identifier : ℕ) (payload : List ℕ) → IsOctets payload → length payload < 2 ^ 16 → Judges code identifier payload (judged code identifier payload)
judged_right code zero payload fits small = (refl, refl, refl)
judged_right code (suc i) payload fits small =
    let pos : 0 < suc i = omega arith in
    elim (code_cases code) [
      | inl un ↦ subst (Judges code (suc i) payload) (sym (judged_unknown code (suc i) payload pos un)) (refl, refl, pos, un)
      | inr kn ↦ subst (Judges code (suc i) payload) (sym (judged_known code (suc i) payload pos kn.0 kn.1)) (read_right code (suc i) payload (content_of code payload) pos kn.0 kn.1 fits small refl)
    ]

read_none : (code : ℕ) (payload : List ℕ) (read : Option Content) → 1 ≤ code → code ≤ 11 → IsOctets payload → length payload < 2 ^ 16
    → ((what : Content) → ¬ Says code payload what) → content_of code payload ≡ read → read ≡ None
read_none code payload None low high fits small none e = refl
read_none code payload (Some what) low high fits small none e = absurd (none what (content_is code payload low high fits small what e))

pub judges_one : (code identifier : ℕ) (payload : List ℕ) (given : Answer) → IsOctets payload → length payload < 2 ^ 16 → Judges code identifier payload given → given ≡ judged code identifier payload
judges_one code identifier payload (Ok c) fits small h =
    let known = code_known c.content in
    let made : Ok c ≡ read_as code identifier (Some c.content) = ap (λ (i : ℕ). read_as code i (Some c.content)) h.0 in
    made ∙ ap (read_as code identifier) (sym (says_read code payload c.content h.2)) ∙ sym (judged_known code identifier payload h.1 (omega (arith, h.2.code_is)) (omega (arith, h.2.code_is)))
judges_one code identifier payload (Err (ZeroIdentifier k i)) fits small h =
    rw (h.0, h.1) (sym (judged_zero code identifier payload h.2))
judges_one code identifier payload (Err (UnknownCode k i)) fits small h =
    rw (h.0, h.1) (sym (judged_unknown code identifier payload h.2 h.3))
judges_one code identifier payload (Err (BadLength k i)) fits small h =
    rw (h.0, h.1) (sym (judged_known code identifier payload h.2 h.3 h.4 ∙ ap (read_as code identifier) (read_none code payload (content_of code payload) h.3 h.4 fits small h.5 refl)))
judges_one code identifier payload (Err (AboveMtu k i)) fits small h = absurd h
