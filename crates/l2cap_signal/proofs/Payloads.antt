-- The answers to a whole payload.
use Rattle.std.proofs.Common.{◌≡◌, ℕ, zero, suc, ◌+◌, ◌*◌, ◌/◌, ◌%◌, ◌^◌, ◌<◌, ◌≤◌, ◌⊎◌, false, ltb, List, [], ◌∷◌, ◌++◌, length, map, take, drop, slice_get, Ok, Err, refl, sym, ap, subst, ◌∙◌, arith, inl, inr, length-append}
use Rattle.std.specs.Prelude.{slice_index}
use Rattle.std.specs.List.{flat_map, AllByRecursion}
use Rattle.std.proofs.lemmas.Bool.{cases_lt, le-ltb, lt-ltb}
use Rattle.std.proofs.lemmas.List.{take_at, drop_at, take-append-drop, length-take, length-take-le, length-drop, get_or-take, get_or_past}
use Rattle.bt_base.specs.Octets.{IsOctets, le16}
use Rattle.bt_base.proofs.OctetLemmas.{le16-again}
use Rattle.l2cap_signal.specs.declared.refusal.SignalRefusal.TheVariants.{BadLength, AboveMtu}
use Rattle.l2cap_signal.specs.Commands.{Command, code_of, words_of, rest_of, payload_of, framed, spelling, IsCommand}
use Rattle.l2cap_signal.specs.Reading.{Answer, word_at, judged, first, answers}
use Rattle.l2cap_signal.specs.Grammar.{Judges, Begins, Breaks, AreGiven, AreAnswers}
use Rattle.l2cap_signal.proofs.Contents.{octets_behind}
use Rattle.l2cap_signal.proofs.Judged.{judged_right, judges_one}
use Rattle.l2cap_signal.proofs.Steps.{first_shorter, answers_nothing, answers_step}

abbrev bad : List ℕ → Answer
bad octets = Err (BadLength (slice_index octets 0) (slice_get octets 1))

abbrev above : List ℕ → Answer
above octets = Err (AboveMtu (slice_index octets 0) (slice_get octets 1))

abbrev size_in : List ℕ → ℕ
size_in octets = word_at 2 octets

-- ---- the ways of a step

first_above : (octets : List ℕ) → 672 < length octets → first octets ≡ (above octets, [])
unfolding first
first_above octets long = rw (lt-ltb _ _ long) refl

first_short : (octets : List ℕ) → length octets < 4 → first octets ≡ (bad octets, [])
unfolding first
first_short octets short =
    let within : ltb 672 (length octets) ≡ false = le-ltb 672 (length octets) (omega arith) in
    rw (within, lt-ltb _ _ short) refl

first_past : (octets : List ℕ) → length octets ≤ 672 → 4 ≤ length octets → length (drop 4 octets) < size_in octets → first octets ≡ (bad octets, [])
unfolding first
first_past octets within long past =
    rw (le-ltb _ _ within, le-ltb _ _ long, lt-ltb _ _ past) refl

first_whole : (octets : List ℕ) → length octets ≤ 672 → 4 ≤ length octets → size_in octets ≤ length (drop 4 octets)
    → first octets ≡ (judged (slice_index octets 0) (slice_index octets 1) (take (size_in octets) (drop 4 octets)), drop (size_in octets) (drop 4 octets))
unfolding first
first_whole octets within long whole =
    rw (le-ltb _ _ within, le-ltb _ _ long, le-ltb _ _ whole) refl

-- ---- a command at the front

word_is : (n : ℕ) → n < 2 ^ 16 → n % 256 + 256 * (n / 256 % 256 + 0) ≡ n
word_is n fits = omega arith

first_framed : (code identifier : ℕ) (payload rest : List ℕ) → length payload < 2 ^ 16 → length (framed code identifier payload ++ rest) ≤ 672
    → first (framed code identifier payload ++ rest) ≡ (judged code identifier payload, rest)
first_framed code identifier payload rest small within =
    let n = length payload in
    let size : size_in (framed code identifier payload ++ rest) ≡ n = word_is n small in
    let whole : size_in (framed code identifier payload ++ rest) ≤ length (payload ++ rest) = omega (arith, size, length-append payload rest) in
    first_whole (framed code identifier payload ++ rest) within (omega arith) whole
    ∙ ap (λ (k : ℕ). (judged code identifier (take k (payload ++ rest)), drop k (payload ++ rest))) size
    ∙ rw (take_at payload rest n refl, drop_at payload rest n refl) refl

-- what a command at the front says of the octets
framed_front : (octets : List ℕ) (code identifier : ℕ) (payload rest : List ℕ) → length payload < 2 ^ 16 → octets ≡ framed code identifier payload ++ rest
    → (4 ≤ length octets) × (size_in octets ≤ length (drop 4 octets))
framed_front octets code identifier payload rest small e =
    let P : List ℕ → Type 0 = λ xs. (4 ≤ length xs) × (size_in xs ≤ length (drop 4 xs)) in
    let size : size_in (framed code identifier payload ++ rest) ≡ length payload = word_is (length payload) small in
    let here : P (framed code identifier payload ++ rest) = (omega arith, omega (arith, size, length-append payload rest)) in
    subst P (sym e) here

cells_framed : (a b c d : ℕ) (r : List ℕ) → c < 256 → d < 256 → c + 256 * (d + 0) ≤ length r
    → a ∷ b ∷ c ∷ d ∷ r ≡ framed a b (take (c + 256 * (d + 0)) r) ++ drop (c + 256 * (d + 0)) r
cells_framed a b c d r low high whole =
    let n : ℕ = c + 256 * (d + 0) in
    let len : length (take n r) ≡ n = length-take-le n r whole in
    let size : le16 (length (take n r)) ≡ c ∷ d ∷ [] = ap le16 len ∙ le16-again c d [] low high in
    ap (λ (x : List ℕ). a ∷ b ∷ c ∷ d ∷ x) (sym (take-append-drop n r))
    ∙ ap (λ (x : List ℕ). a ∷ b ∷ (x ++ (take n r ++ drop n r))) (sym size)

whole_framed : (octets : List ℕ) → IsOctets octets → 4 ≤ length octets → size_in octets ≤ length (drop 4 octets)
    → octets ≡ framed (slice_index octets 0) (slice_index octets 1) (take (size_in octets) (drop 4 octets)) ++ drop (size_in octets) (drop 4 octets)
whole_framed [] fits long whole = absurd (omega arith)
whole_framed (a ∷ []) fits long whole = absurd (omega arith)
whole_framed (a ∷ b ∷ []) fits long whole = absurd (omega arith)
whole_framed (a ∷ b ∷ c ∷ []) fits long whole = absurd (omega arith)
whole_framed (a ∷ b ∷ c ∷ d ∷ r) fits long whole = cells_framed a b c d r (fits 2) (fits 3) whole

-- ---- what a step gives is right

octets_front : (n : ℕ) (xs : List ℕ) → IsOctets xs → IsOctets (take n xs)
octets_front n xs fits i =
    elim (cases_lt i n) [
      | inl lt ↦ rw (get_or-take n xs i 0 lt) (fits i)
      | inr le ↦ rw (get_or_past (take n xs) i 0 (omega (arith, length-take n xs))) (omega arith)
    ]

octets_join : (xs ys : List ℕ) → IsOctets xs → IsOctets ys → IsOctets (xs ++ ys)
octets_join [] ys p q i = q i
octets_join (x ∷ xs) ys p q zero = p 0
octets_join (x ∷ xs) ys p q (suc i) = octets_join xs ys (λ k. p (suc k)) q i

octets_words : (ws : List ℕ) → IsOctets (flat_map le16 ws)
octets_words [] i = omega arith
octets_words (w ∷ ws) zero = omega arith
octets_words (w ∷ ws) (suc zero) = omega arith
octets_words (w ∷ ws) (suc (suc i)) = octets_words ws i

breaks_by : (octets : List ℕ) → 0 < length octets → (¬ ((4 ≤ length octets) × (size_in octets ≤ length (drop 4 octets)))) → first octets ≡ (bad octets, [])
    → Breaks octets (first octets).0 × ((first octets).1 ≡ [])
breaks_by octets some not_whole e = (
  record {
    some = some;
    none = λ code identifier payload rest small parts. not_whole (framed_front octets code identifier payload rest small parts);
    refusal = ap (λ (p : Answer × List ℕ). p.0) e;
  },
  ap (λ (p : Answer × List ℕ). p.1) e,
)

begins_or_breaks : (octets : List ℕ) → IsOctets octets → 0 < length octets → length octets ≤ 672
    → Begins octets (first octets).0 (first octets).1 ⊎ (Breaks octets (first octets).0 × ((first octets).1 ≡ []))
begins_or_breaks octets fits some within =
    elim (cases_lt (length octets) 4) [
      | inl short ↦ inr (breaks_by octets some (λ w. absurd (omega (arith, w.0))) (first_short octets short))
      | inr long ↦ elim (cases_lt (length (drop 4 octets)) (size_in octets)) [
        | inl past ↦ inr (breaks_by octets some (λ w. absurd (omega (arith, w.1))) (first_past octets within long past))
        | inr whole ↦
            let code = slice_index octets 0 in
            let identifier = slice_index octets 1 in
            let payload = take (size_in octets) (drop 4 octets) in
            let rest = drop (size_in octets) (drop 4 octets) in
            let small : length payload < 2 ^ 16 = omega (arith, length-take-le (size_in octets) (drop 4 octets) whole, length-drop 4 octets) in
            let right = judged_right code identifier payload (octets_front (size_in octets) (drop 4 octets) (octets_behind 4 octets fits)) small in
            let step : (judged code identifier payload, rest) ≡ first octets = sym (first_whole octets within long whole) in
            inl (subst (λ (p : Answer × List ℕ). Begins octets p.0 p.1) step
            (record { code = code; identifier = identifier; payload = payload; size = small; parts = whole_framed octets fits long whole; judged = right }))
      ]
    ]

rest_octets : (front rest octets : List ℕ) → octets ≡ front ++ rest → IsOctets octets → IsOctets rest
rest_octets front rest octets e fits = subst IsOctets (drop_at front rest (length front) refl) (octets_behind (length front) (front ++ rest) (subst IsOctets e fits))

front_octets : (front rest octets : List ℕ) → octets ≡ front ++ rest → IsOctets octets → IsOctets front
front_octets front rest octets e fits = subst IsOctets (take_at front rest (length front) refl) (octets_front (length front) (front ++ rest) (subst IsOctets e fits))

given_right : (n : ℕ) (octets : List ℕ) → length octets ≤ n → IsOctets octets → length octets ≤ 672 → AreGiven octets (answers octets)
given_right n [] le fits within = subst (AreGiven []) (sym (answers_nothing [] refl)) refl
given_right zero (o ∷ os) le fits within = absurd (omega arith)
given_right (suc n) (o ∷ os) le fits within =
    let octets : List ℕ = o ∷ os in
    let less = first_shorter octets (omega arith) in
    let rest = (first octets).1 in
    subst (AreGiven octets) (sym (answers_step octets (omega arith))) (elim (begins_or_breaks octets fits (omega arith) within) [
      | inl b ↦ inr (rest, b, given_right n rest (omega arith) (rest_octets (framed b.code b.identifier b.payload) rest octets b.parts fits) (omega arith))
      | inr s ↦ inl (s.0, ap answers s.1 ∙ answers_nothing [] refl)
    ])

pub answers_right : (payload : List ℕ) → IsOctets payload → AreAnswers payload (answers payload)
answers_right payload fits =
    elim (cases_lt 672 (length payload)) [
      | inl long ↦
          let step = first_above payload long in
          inl (long, answers_step payload (omega arith) ∙ ap (λ (p : Answer × List ℕ). p.0 ∷ answers p.1) step ∙ ap (λ (x : List Answer). above payload ∷ x) (answers_nothing [] refl))
      | inr within ↦ inr (within, given_right (length payload) payload (omega arith) fits within)
    ]

-- ---- and nothing else is

given_only : (list : List Answer) (octets : List ℕ) → IsOctets octets → length octets ≤ 672 → AreGiven octets list → list ≡ answers octets
given_only [] octets fits within e = sym (answers_nothing octets (ap length e))
given_only (given ∷ list) octets fits within (inl broken) =
    let some = broken.0.some in
    elim (begins_or_breaks octets fits some within) [
      | inl b ↦ absurd (broken.0.none b.code b.identifier b.payload (first octets).1 b.size b.parts)
      | inr s ↦
          let head : given ≡ (first octets).0 = broken.0.refusal ∙ sym s.0.refusal in
          let tail : list ≡ answers (first octets).1 = broken.1 ∙ sym (ap answers s.1 ∙ answers_nothing [] refl) in
          ap (λ (x : Answer). x ∷ list) head ∙ ap (λ (x : List Answer). (first octets).0 ∷ x) tail ∙ sym (answers_step octets some)
    ]
given_only (given ∷ list) octets fits within (inr more) =
    let rest = more.0 in
    let b = more.1 in
    let front = framed b.code b.identifier b.payload in
    let len : length octets ≡ length (front ++ rest) = ap length b.parts in
    let some : 0 < length octets = omega arith in
    let step : first octets ≡ (judged b.code b.identifier b.payload, rest) = ap first b.parts ∙ first_framed b.code b.identifier b.payload rest b.size (omega arith) in
    let in_front : IsOctets b.payload = octets_behind 4 front (front_octets front rest octets b.parts fits) in
    let head : given ≡ judged b.code b.identifier b.payload = judges_one b.code b.identifier b.payload given in_front b.size b.judged in
    let tail : list ≡ answers rest = given_only list rest (rest_octets front rest octets b.parts fits) (omega (arith, length-append front rest)) more.2 in
    ap (λ (x : Answer). x ∷ list) head ∙ ap (λ (x : List Answer). judged b.code b.identifier b.payload ∷ x) tail
    ∙ sym (answers_step octets some ∙ ap (λ (p : Answer × List ℕ). p.0 ∷ answers p.1) step)

pub answers_only : (payload : List ℕ) (list : List Answer) → IsOctets payload → AreAnswers payload list → list ≡ answers payload
answers_only payload list fits (inl long) =
    let step = first_above payload long.0 in
    long.1 ∙ sym (answers_step payload (omega (arith, long.0)) ∙ ap (λ (p : Answer × List ℕ). p.0 ∷ answers p.1) step ∙ ap (λ (x : List Answer). above payload ∷ x) (answers_nothing [] refl))
answers_only payload list fits (inr within) = given_only list payload fits within.0 within.1

-- ---- what was written is read

command_octets : (c : Command) → IsCommand c → IsOctets (payload_of c.content)
command_octets c fits = octets_join (flat_map le16 (words_of c.content)) (rest_of c.content) (octets_words (words_of c.content)) fits.content.rest

pub written_read : (commands : List Command) → AllByRecursion IsCommand commands → length (flat_map spelling commands) ≤ 672 → answers (flat_map spelling commands) ≡ map Ok commands
written_read [] fit within = answers_nothing [] refl
written_read (c ∷ cs) fit within =
    let code = code_of c.content in
    let payload = payload_of c.content in
    let rest = flat_map spelling cs in
    let step : first (framed code c.identifier payload ++ rest) ≡ (judged code c.identifier payload, rest) = first_framed code c.identifier payload rest fit.0.content.size within in
    let says : Judges code c.identifier payload (Ok c) = (refl, fit.0.above_zero, record { code_is = refl; payload_is = refl; fits = fit.0.content }) in
    let head : Ok c ≡ judged code c.identifier payload = judges_one code c.identifier payload (Ok c) (command_octets c fit.0) fit.0.content.size says in
    let less : length rest ≤ 672 = omega (arith, length-append payload rest) in
    answers_step (framed code c.identifier payload ++ rest) (omega arith) ∙ ap (λ (p : Answer × List ℕ). p.0 ∷ answers p.1) step
    ∙ ap (λ (x : Answer). x ∷ answers rest) (sym head) ∙ ap (λ (x : List Answer). Ok c ∷ x) (written_read cs fit.1 less)
