-- Requests that wait for their answers: what each word does to the number of passes.
use Rattle.std.proofs.Common.{ℕ, ◌≡◌, ◌+◌, ◌*◌, ◌≤◌, ◌⊎◌, inl, inr, Bool, true, false, cond, List, [], ◌∷◌, ◌++◌, length, refl, ap, sym, ◌∙◌, arith, length-append, append-nil}
use Rattle.std.specs.Prelude.{not}
use Rattle.std.specs.List.{AllByRecursion, list_any}
use Rattle.std.proofs.lemmas.List.Folds.{list_any-append}
use Rattle.std.proofs.lemmas.Bool.{and_parts, and_from, not-true, not_from_false, or_parts, or_from, both_ways, cases_Bool, false_from_ne_true}
use Rattle.recovery_laws.specs.Requests.{Request, is_lost, lost, Asker, passes_for, AreAnswered, HaveCopies, unanswered, how_many, heard, told, timed, RequestsRecover}
use Rattle.recovery_laws.proofs.Tests.{bit, bit-le, bit-none, bit-one}

-- ---- one request

lost_says : (going coming : List (List ℕ)) (request : Request) → is_lost going coming request ≡ true → (list_any request.asks going ≡ false) × (list_any request.answers coming ≡ false)
lost_says going coming request is =
    let both = and_parts (not (list_any request.asks going)) (not (list_any request.answers coming)) is in
    (not-true (list_any request.asks going) both.0, not-true (list_any request.answers coming) both.1)

lost_from : (going coming : List (List ℕ)) (request : Request) → list_any request.asks going ≡ false → list_any request.answers coming ≡ false → is_lost going coming request ≡ true
lost_from going coming request unasked untold =
    and_from (not (list_any request.asks going)) (not (list_any request.answers coming)) (not_from_false (list_any request.asks going) unasked) (not_from_false (list_any request.answers coming) untold)

none_first : (test : List ℕ → Bool) (first second : List (List ℕ)) → list_any test (first ++ second) ≡ false → (list_any test first ≡ false) × (list_any test second ≡ false)
none_first test first second none = or_parts (list_any test first) (list_any test second) (sym (list_any-append test first second) ∙ none)

-- ---- all of them

-- each that is lost then was lost before
lost_le : (going coming going' coming' : List (List ℕ)) (requests : List Request) → AllByRecursion (λ (request : Request). is_lost going' coming' request ≡ true → is_lost going coming request ≡ true) requests
    → lost going' coming' requests ≤ lost going coming requests
lost_le going coming going' coming' [] each = omega arith
lost_le going coming going' coming' (request ∷ requests) each =
    let first = bit-le (is_lost going' coming' request) (is_lost going coming request) each.0 in
    let rest = lost_le going coming going' coming' requests each.1 in
    omega arith

lost_one : (now before counted : Bool) → (now ≡ true → (before ≡ true) ⊎ (counted ≡ true)) → bit now ≤ bit counted + bit before
lost_one false before counted each = omega arith
lost_one true before counted each = elim (each refl) [ inl is ↦ (let e = bit-one before is in omega arith) | inr is ↦ (let e = bit-one counted is in omega arith) ]

-- but for those that a test counts
lost_but : (test : Request → Bool) (going coming going' coming' : List (List ℕ)) (requests : List Request) → ((request : Request) → is_lost going' coming' request ≡ true → (is_lost going coming request ≡ true) ⊎ (test request ≡ true))
    → lost going' coming' requests ≤ how_many test requests + lost going coming requests
lost_but test going coming going' coming' [] each = omega arith
lost_but test going coming going' coming' (request ∷ requests) each =
    let rest = lost_but test going coming going' coming' requests each in
    let first = lost_one (is_lost going' coming' request) (is_lost going coming request) (test request) (each request) in
    omega arith

all_so : (P : Request → Type 0) (requests : List Request) → ((request : Request) → P request) → AllByRecursion P requests
all_so P [] each = tt
all_so P (request ∷ requests) each = (each request, all_so P requests each)

all_from : (P Q : Request → Type 0) (requests : List Request) → ((request : Request) → P request → Q request) → AllByRecursion P requests → AllByRecursion Q requests
all_from P Q [] each all = tt
all_from P Q (request ∷ requests) each all = (each request all.0, all_from P Q requests each all.1)

-- more is on the way
pub lost-more : (going coming copies answers : List (List ℕ)) (requests : List Request) → lost (going ++ copies) (coming ++ answers) requests ≤ lost going coming requests
lost-more going coming copies answers requests =
    lost_le going coming (going ++ copies) (coming ++ answers) requests
    (all_so (λ (request : Request). is_lost (going ++ copies) (coming ++ answers) request ≡ true → is_lost going coming request ≡ true) requests
    (λ request is. (let both = lost_says (going ++ copies) (coming ++ answers) request is in
    lost_from going coming request (none_first request.asks going copies both.0).0 (none_first request.answers coming answers both.1).0)))

-- a copy comes, and is answered
lost_heard : (pdu : List ℕ) (behind coming answers : List (List ℕ)) (requests : List Request) → AreAnswered pdu answers requests → lost behind (coming ++ answers) requests ≤ lost (pdu ∷ behind) coming requests
lost_heard pdu behind coming answers requests answered =
    lost_le (pdu ∷ behind) coming behind (coming ++ answers) requests
    (all_from (λ (request : Request). request.asks pdu ≡ true → list_any request.answers answers ≡ true) (λ (request : Request). is_lost behind (coming ++ answers) request ≡ true → is_lost (pdu ∷ behind) coming request ≡ true) requests
    (λ request answers_it is. (let both = lost_says behind (coming ++ answers) request is in
    let none = none_first request.answers coming answers both.1 in
    let other : request.asks pdu ≡ false = false_from_ne_true (request.asks pdu) (λ asks. both_ways (list_any request.answers answers) none.1 (answers_it asks)) in
    lost_from (pdu ∷ behind) coming request (or_from (request.asks pdu) (list_any request.asks behind) other both.0) none.0)) answered)

-- an answer comes
told_one : (pdu : List ℕ) (going behind : List (List ℕ)) (request : Request) (rest : List Request) (before : ℕ) (answered : Bool) → request.answers pdu ≡ answered → lost going behind rest ≤ before
    → lost going behind (cond answered rest (request ∷ rest)) ≤ bit (is_lost going (pdu ∷ behind) request) + before
told_one pdu going behind request rest before true is le = omega arith
told_one pdu going behind request rest before false is le =
    let first = bit-le (is_lost going behind request) (is_lost going (pdu ∷ behind) request)
    (λ lost_. (let both = lost_says going behind request lost_ in lost_from going (pdu ∷ behind) request both.0 (or_from (request.answers pdu) (list_any request.answers behind) is both.1))) in
    omega arith

lost_told : (pdu : List ℕ) (going behind : List (List ℕ)) (requests : List Request) → lost going behind (unanswered pdu requests) ≤ lost going (pdu ∷ behind) requests
lost_told pdu going behind [] = omega arith
lost_told pdu going behind (request ∷ requests) = told_one pdu going behind request (unanswered pdu requests) (lost going (pdu ∷ behind) requests) (request.answers pdu) refl (lost_told pdu going behind requests)

fewer_one : (going coming : List (List ℕ)) (request : Request) (rest : List Request) (before : ℕ) (answered : Bool) → lost going coming rest ≤ before → lost going coming (cond answered rest (request ∷ rest)) ≤ bit (is_lost going coming request) + before
fewer_one going coming request rest before true le = omega arith
fewer_one going coming request rest before false le = omega arith

lost_fewer : (pdu : List ℕ) (going coming : List (List ℕ)) (requests : List Request) → lost going coming (unanswered pdu requests) ≤ lost going coming requests
lost_fewer pdu going coming [] = omega arith
lost_fewer pdu going coming (request ∷ requests) = fewer_one going coming request (unanswered pdu requests) (lost going coming requests) (request.answers pdu) (lost_fewer pdu going coming requests)

-- those of which a copy is on its way are not lost
lost_none : (going copies coming : List (List ℕ)) (requests : List Request) → HaveCopies copies requests → lost (going ++ copies) coming requests ≡ 0
lost_none going copies coming [] have = refl
lost_none going copies coming (request ∷ requests) have =
    let first = bit-none (is_lost (going ++ copies) coming request) (λ is. both_ways (list_any request.asks copies) (none_first request.asks going copies (lost_says (going ++ copies) coming request is).0).1 have.0) in
    let rest = lost_none going copies coming requests have.1 in
    omega arith

lost_both : (going coming : List (List ℕ)) (first second : List Request) → lost going coming (first ++ second) ≡ lost going coming first + lost going coming second
lost_both going coming [] second = omega arith
lost_both going coming (request ∷ first) second = let rest = lost_both going coming first second in omega arith

-- where nothing is on its way all are lost
lost_all : (requests : List Request) → lost [] [] requests ≡ length requests
lost_all [] = refl
lost_all (request ∷ requests) = let rest = lost_all requests in omega arith

-- ---- words

copy_comes : (a : Asker) (pdu : List ℕ) (behind answers : List (List ℕ)) → a.going ≡ pdu ∷ behind → length answers ≤ 1 → AreAnswered pdu answers a.waiting → 1 + passes_for (heard behind answers a) ≤ passes_for a
copy_comes a pdu behind answers is few answered =
    let less = lost_heard pdu behind a.coming answers a.waiting answered in
    let same = ap (λ (l : List (List ℕ)). lost l a.coming a.waiting) is in
    let long = length-append a.coming answers in
    let one = ap length is in
    omega arith

-- what the asker makes of an answer, that goes or stays
told_less : (a : Asker) (pdu : List ℕ) (behind copies : List (List ℕ)) (new : List Request) → HaveCopies copies new → lost a.going behind (unanswered pdu a.waiting) ≤ lost a.going a.coming a.waiting
    → lost (a.going ++ copies) behind (unanswered pdu a.waiting ++ new) ≤ lost a.going a.coming a.waiting
told_less a pdu behind copies new have le =
    let both = lost_both (a.going ++ copies) behind (unanswered pdu a.waiting) new in
    let none = lost_none a.going copies behind new have in
    let more = lost-more a.going behind copies [] (unanswered pdu a.waiting) in
    let same = ap (λ (l : List (List ℕ)). lost (a.going ++ copies) l (unanswered pdu a.waiting)) (append-nil behind) in
    omega arith

answer_comes : (a : Asker) (pdu : List ℕ) (behind copies : List (List ℕ)) (new : List Request) (planned : ℕ) → a.coming ≡ pdu ∷ behind → length copies + planned ≤ a.planned → HaveCopies copies new
    → 1 + passes_for (told pdu behind copies new planned a) ≤ passes_for a
answer_comes a pdu behind copies new planned is few have =
    let told_ = lost_told pdu a.going behind a.waiting in
    let same = ap (λ (l : List (List ℕ)). lost a.going l a.waiting) is in
    let less = told_less a pdu behind copies new have (omega arith) in
    let long = length-append a.going copies in
    let one = ap length is in
    omega arith

answer_repeated : (a : Asker) (pdu : List ℕ) (copies : List (List ℕ)) (new : List Request) (planned : ℕ) → length copies + planned ≤ a.planned → HaveCopies copies new → passes_for (told pdu a.coming copies new planned a) ≤ passes_for a
answer_repeated a pdu copies new planned few have =
    let less = told_less a pdu a.coming copies new have (lost_fewer pdu a.going a.coming a.waiting) in
    let long = length-append a.going copies in
    omega arith

timers_fire : (a : Asker) (copies : List (List ℕ)) → a.going ≡ [] → a.coming ≡ [] → 1 ≤ length a.waiting → length copies ≤ length a.waiting → HaveCopies copies a.waiting → 1 + passes_for (timed copies a) ≤ passes_for a
timers_fire a copies none none' some few have =
    let after = lost_none a.going copies a.coming a.waiting have in
    let before = ap (λ (l : List (List ℕ)). lost l a.coming a.waiting) none ∙ ap (λ (l : List (List ℕ)). lost [] l a.waiting) none' ∙ lost_all a.waiting in
    let long = length-append a.going copies in
    omega arith

copy_lost : (a : Asker) (pdu : List ℕ) (behind : List (List ℕ)) → a.going ≡ pdu ∷ behind → how_many (λ (request : Request). request.asks pdu) a.waiting ≤ 1 → passes_for (record a { going = behind }) ≤ 1 + passes_for a
copy_lost a pdu behind is few =
    let more = lost_but (λ (request : Request). request.asks pdu) (pdu ∷ behind) a.coming behind a.coming a.waiting
    (λ request is_. (let both = lost_says behind a.coming request is_ in
    elim (cases_Bool (request.asks pdu)) [ inl asks ↦ inr asks | inr other ↦ inl (lost_from (pdu ∷ behind) a.coming request (or_from (request.asks pdu) (list_any request.asks behind) other both.0) both.1) ])) in
    let same = ap (λ (l : List (List ℕ)). lost l a.coming a.waiting) is in
    let one = ap length is in
    omega arith

answer_lost : (a : Asker) (pdu : List ℕ) (behind : List (List ℕ)) → a.coming ≡ pdu ∷ behind → how_many (λ (request : Request). request.answers pdu) a.waiting ≤ 1 → passes_for (record a { coming = behind }) ≤ 2 + passes_for a
answer_lost a pdu behind is few =
    let more = lost_but (λ (request : Request). request.answers pdu) a.going (pdu ∷ behind) a.going behind a.waiting
    (λ request is_. (let both = lost_says a.going behind request is_ in
    elim (cases_Bool (request.answers pdu)) [ inl answers_ ↦ inr answers_ | inr other ↦ inl (lost_from a.going (pdu ∷ behind) request both.0 (or_from (request.answers pdu) (list_any request.answers behind) other both.1)) ])) in
    let same = ap (λ (l : List (List ℕ)). lost a.going l a.waiting) is in
    let one = ap length is in
    omega arith

copy_repeated : (a : Asker) (answers : List (List ℕ)) → length answers ≤ 1 → passes_for (heard a.going answers a) ≤ 1 + passes_for a
copy_repeated a answers few =
    let less = lost-more a.going a.coming [] answers a.waiting in
    let same = ap (λ (l : List (List ℕ)). lost l (a.coming ++ answers) a.waiting) (append-nil a.going) in
    let long = length-append a.coming answers in
    omega arith

timers_early : (a : Asker) (copies : List (List ℕ)) → passes_for (timed copies a) ≤ 2 * length copies + passes_for a
timers_early a copies =
    let less = lost-more a.going a.coming copies [] a.waiting in
    let same = ap (λ (l : List (List ℕ)). lost (a.going ++ copies) l a.waiting) (append-nil a.coming) in
    let long = length-append a.going copies in
    omega arith

pub requests-recover : RequestsRecover
requests-recover = record {
  copy_comes = copy_comes;
  answer_comes = answer_comes;
  timers_fire = timers_fire;
  copy_lost = copy_lost;
  answer_lost = answer_lost;
  copy_repeated = copy_repeated;
  answer_repeated = answer_repeated;
  timers_early = timers_early;
}
