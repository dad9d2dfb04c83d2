-- The lines of a report tell which pushes are done.
use Rattle.std.proofs.Common.{◌≡◌, ℕ, zero, suc, ◌+◌, ◌-◌, ◌/◌, ◌%◌, ◌<◌, ◌≤◌, Bool, true, false, cond, List, [], ◌∷◌, ◌++◌, length, take, drop, refl, ap, ◌∙◌, arith, append_assoc}
use Rattle.std.proofs.lemmas.Bool.{lt-ltb, and_parts, and_from, not_from_false, ne_eqb, eq-eqb}
use Rattle.std.proofs.lemmas.List.{take_at}
use Rattle.std.specs.Prelude.{codes, nat_lt, decimal, ◌==◌}
use Rattle.std.specs.Fmt.{digits, digits_onto, digit_glyph}
use Rattle.std.specs.List.{before_first, after_first, position_or_len, list_all, starts_with, AllByRecursion}
use Rattle.object_push.specs.push_terms.specs.Words.{hex_digit, hex_octet}
use Rattle.object_push.specs.push_terms.specs.Outcomes.{outcome_text}
use Rattle.object_push.specs.push_terms.specs.declared.outcome.Outcome.{Outcome}
use Rattle.object_push.specs.push_terms.specs.declared.outcome.Outcome.TheVariants.{Done, LinkLost, RetryLimit, Refused, NoService, ShelfFault, Cancelled, PeerClosed, PeerFault, ScriptEnded}
use Rattle.push_script.specs.Reports.{push_line, push_lines}
use Rattle.script_words.proofs.OutcomesWritten.{fault_text}
use Rattle.script_words.proofs.Splitting.{differs, all_append}
use Rattle.object_push.specs.Running.{is_done}
use Rattle.making.specs.Counting.{is_feed, tells_done, done_lines}
use Rattle.making.specs.Outcomes.{done_count}
use Rattle.making.proofs.Telling.{no_lines, first_line}

-- ---- where a text is parted

-- the first octet of that value stands behind all octets of others
place : (mark : ℕ) (front rest : List ℕ) → list_all (differs mark) front ≡ true → position_or_len (λ octet. octet == mark) (front ++ mark ∷ rest) ≡ length front
place mark [] rest h = rw (eq-eqb mark mark refl) refl
place mark (c ∷ cs) rest h =
    let parts : (differs mark c ≡ true) × (list_all (differs mark) cs ≡ true) = and_parts (differs mark c) (list_all (differs mark) cs) h in
    let ih : position_or_len (λ octet. octet == mark) (cs ++ mark ∷ rest) ≡ length cs = place mark cs rest parts.1 in
    let more : 1 + length cs ≡ suc (length cs) = omega arith in
    rw (parts.0, ih) more

past : (mark : ℕ) (front rest : List ℕ) → drop (length front + 1) (front ++ mark ∷ rest) ≡ rest
past mark [] rest = refl
past mark (c ∷ cs) rest = let e : suc (length cs) + 1 ≡ suc (length cs + 1) = omega arith in rw e (past mark cs rest)

stands_before : (mark : ℕ) (front rest : List ℕ) → list_all (differs mark) front ≡ true → before_first (λ octet. octet == mark) (front ++ mark ∷ rest) ≡ front
stands_before mark front rest h = ap (λ (n : ℕ). take n (front ++ mark ∷ rest)) (place mark front rest h) ∙ take_at front (mark ∷ rest) (length front) refl

stands_behind : (mark : ℕ) (front rest : List ℕ) → list_all (differs mark) front ≡ true → after_first (λ octet. octet == mark) (front ++ mark ∷ rest) ≡ rest
stands_behind mark front rest h = ap (λ (n : ℕ). drop (n + 1) (front ++ mark ∷ rest)) (place mark front rest h) ∙ past mark front rest

-- ---- the octets of a line

above : (mark c : ℕ) → mark < 48 → 48 ≤ c → differs mark c ≡ true
above mark c lt le = not_from_false (c == mark) (ne_eqb c mark (λ e. omega arith))

glyph_high : (d : ℕ) → d < 10 → 48 ≤ digit_glyph false d
glyph_high d lt = rw (lt-ltb d 10 lt) (omega arith)

digit_differs : (mark n : ℕ) → mark < 48 → differs mark (digit_glyph false (n % 10)) ≡ true
digit_differs mark n lt = above mark (digit_glyph false (n % 10)) lt (glyph_high (n % 10) (omega arith))

onto_differs : (mark k n : ℕ) (rest : List ℕ) → mark < 48 → list_all (differs mark) rest ≡ true → list_all (differs mark) (digits_onto k 10 false n rest) ≡ true
onto_differs mark zero n rest lt h = h
onto_differs mark (suc k) n rest lt h =
    let more : list_all (differs mark) (digit_glyph false (n % 10) ∷ rest) ≡ true = and_from (differs mark (digit_glyph false (n % 10))) (list_all (differs mark) rest) (digit_differs mark n lt) h in
    either (n / 10 == 0) (digit_glyph false (n % 10) ∷ rest) (digits_onto k 10 false (n / 10) (digit_glyph false (n % 10) ∷ rest)) more (onto_differs mark k (n / 10) (digit_glyph false (n % 10) ∷ rest) lt more)
  where
    either : (b : Bool) (xs ys : List ℕ) → list_all (differs mark) xs ≡ true → list_all (differs mark) ys ≡ true → list_all (differs mark) (cond b xs ys) ≡ true
    either true xs ys hx hy = hx
    either false xs ys hx hy = hy

decimal_differs : (mark n : ℕ) → mark < 48 → list_all (differs mark) (decimal n) ≡ true
unfolding digits
decimal_differs mark n lt = onto_differs mark 64 n [] lt refl

chosen_high : (b : Bool) (m n : ℕ) → 48 ≤ m → 48 ≤ n → 48 ≤ cond b m n
chosen_high true m n hm hn = hm
chosen_high false m n hm hn = hn

hex_high : (n : ℕ) → 48 ≤ hex_digit n
hex_high n = chosen_high (nat_lt n 10) (48 + n) (65 + (n - 10)) (omega arith) (omega arith)

octet_differs : (n : ℕ) → list_all (differs 10) (hex_octet n) ≡ true
octet_differs n =
    and_from (differs 10 (hex_digit (n / 16))) (list_all (differs 10) (hex_digit (n % 16) ∷ [])) (above 10 (hex_digit (n / 16)) (omega arith) (hex_high (n / 16)))
    (and_from (differs 10 (hex_digit (n % 16))) true (above 10 (hex_digit (n % 16)) (omega arith) (hex_high (n % 16))) refl)

-- an outcome's text is within a line
outcome_differs : (outcome : Outcome) → list_all (differs 10) (outcome_text outcome) ≡ true
outcome_differs Done = refl
outcome_differs LinkLost = refl
outcome_differs RetryLimit = refl
outcome_differs (Refused code) = octet_differs code
outcome_differs NoService = refl
outcome_differs ShelfFault = refl
outcome_differs Cancelled = refl
outcome_differs PeerClosed = refl
outcome_differs (PeerFault layer reason) =
    ap (list_all (differs 10)) (fault_text layer reason)
    ∙ all_append (differs 10) (decimal layer) (32 ∷ decimal reason) (decimal_differs 10 layer (omega arith)) (decimal_differs 10 reason (omega arith))
outcome_differs ScriptEnded = refl

-- the line of a push without its line feed
abbrev line_of : ℕ → Outcome → List ℕ → List ℕ
line_of number outcome name = decimal number ++ 32 ∷ (outcome_text outcome ++ 32 ∷ name)

line_differs : (number : ℕ) (outcome : Outcome) (name : List ℕ) → list_all (differs 10) name ≡ true → list_all (differs 10) (line_of number outcome name) ≡ true
line_differs number outcome name h =
    all_append (differs 10) (decimal number) (32 ∷ (outcome_text outcome ++ 32 ∷ name)) (decimal_differs 10 number (omega arith))
    (all_append (differs 10) (outcome_text outcome) (32 ∷ name) (outcome_differs outcome) h)

regroup : (d t name more : List ℕ) → ((d ++ (32 ∷ []) ++ t ++ (32 ∷ [])) ++ (name ++ (10 ∷ []))) ++ more ≡ (d ++ 32 ∷ (t ++ 32 ∷ name)) ++ 10 ∷ more
regroup d t name more = simp append_assoc

line_is : (number : ℕ) (outcome : Outcome) (name more : List ℕ) → push_line number outcome name ++ more ≡ line_of number outcome name ++ 10 ∷ more
line_is number outcome name more = regroup (decimal number) (outcome_text outcome) name more

-- ---- what a line tells

begins_done : (outcome : Outcome) (name : List ℕ) → starts_with (λ x y. x == y) (outcome_text outcome ++ 32 ∷ name) (codes "done ") ≡ is_done outcome
begins_done Done name = refl
begins_done LinkLost name = refl
begins_done RetryLimit name = refl
begins_done (Refused code) name = refl
begins_done NoService name = refl
begins_done ShelfFault name = refl
begins_done Cancelled name = refl
begins_done PeerClosed name = refl
begins_done (PeerFault layer reason) name = refl
begins_done ScriptEnded name = refl

line_tells : (number : ℕ) (outcome : Outcome) (name : List ℕ) → tells_done (line_of number outcome name) ≡ is_done outcome
line_tells number outcome name =
    ap (λ (text : List ℕ). starts_with (λ x y. x == y) text (codes "done ")) (stands_behind 32 (decimal number) (outcome_text outcome ++ 32 ∷ name) (decimal_differs 32 number (omega arith)))
    ∙ begins_done outcome name

step : (n number : ℕ) (outcome : Outcome) (name more : List ℕ) → list_all (differs 10) name ≡ true → done_lines (suc n) (push_line number outcome name ++ more) ≡ cond (is_done outcome) 1 0 + done_lines n more
step n number outcome name more h =
    let front = line_of number outcome name in
    ap (done_lines (suc n)) (line_is number outcome name more) ∙ first_line n (front ++ 10 ∷ more)
    ∙ ap (λ (line : List ℕ). cond (tells_done line) 1 0 + done_lines n (after_first is_feed (front ++ 10 ∷ more))) (stands_before 10 front more (line_differs number outcome name h))
    ∙ ap (λ (rest : List ℕ). cond (tells_done front) 1 0 + done_lines n rest) (stands_behind 10 front more (line_differs number outcome name h))
    ∙ ap (λ (b : Bool). cond b 1 0 + done_lines n more) (line_tells number outcome name)

-- the lines of pushes tell how many are done, whatever stands behind them
pub done_told : (number : ℕ) (outcomes : List Outcome) (names : List (List ℕ)) (more : List ℕ) → length names ≤ length outcomes → AllByRecursion (λ name. list_all (differs 10) name ≡ true) names
    → done_lines (length names) (push_lines number outcomes names ++ more) ≡ done_count outcomes names
done_told number [] [] more le h = no_lines more
done_told number [] (name ∷ names) more le h = absurd (omega arith)
done_told number (outcome ∷ outcomes) [] more le h = no_lines more
done_told number (outcome ∷ outcomes) (name ∷ names) more le h =
    ap (done_lines (length (name ∷ names))) (append_assoc (push_line number outcome name) (push_lines (number + 1) outcomes names) more)
    ∙ step (length names) number outcome name (push_lines (number + 1) outcomes names ++ more) h.0
    ∙ ap (λ (n : ℕ). cond (is_done outcome) 1 0 + n) (done_told (number + 1) outcomes names more (omega arith) h.1)

one_told : (done : Bool) → done ≡ true → cond done 1 0 ≡ suc zero
one_told true h = refl
one_told false h = absurd cc

all_done : (outcome : Outcome) (outcomes : List Outcome) → list_all is_done (outcome ∷ outcomes) ≡ true → (is_done outcome ≡ true) × (list_all is_done outcomes ≡ true)
all_done outcome outcomes h = and_parts (is_done outcome) (list_all is_done outcomes) h

-- where all are done, so many are done as there are names
pub all_counted : (outcomes : List Outcome) (names : List (List ℕ)) → list_all is_done outcomes ≡ true → length names ≤ length outcomes → done_count outcomes names ≡ length names
all_counted [] [] h le = refl
all_counted [] (name ∷ names) h le = absurd (omega arith)
all_counted (outcome ∷ outcomes) [] h le = refl
all_counted (outcome ∷ outcomes) (name ∷ names) h le =
    let parts : (is_done outcome ≡ true) × (list_all is_done outcomes ≡ true) = all_done outcome outcomes h in
    let more : done_count outcomes names ≡ length names = all_counted outcomes names parts.1 (omega arith) in
    omega (arith, more, one_told (is_done outcome) parts.0)
