-- Numbers of I-frames on their way, and the ReqSeqs that come back.
use Rattle.std.proofs.Common.{ℕ, zero, suc, ◌≡◌, ◌+◌, ◌<◌, ◌≤◌, inl, inr, Bool, true, false, List, [], ◌∷◌, ◌++◌, refl, ap, sym, ◌∙◌, arith, append-nil}
use Rattle.std.specs.Prelude.{◌==◌, ◌&&◌, ◌||◌}
use Rattle.std.specs.List.{list_any}
use Rattle.std.proofs.lemmas.List.{append_assoc}
use Rattle.std.proofs.lemmas.List.Folds.{list_any-append}
use Rattle.std.proofs.lemmas.Bool.{eq-eqb, ne_eqb, or_left, or_right, or_from, or_parts, and_right, cases_order, le-ltb}
use Rattle.ertm_model.specs.Hearing.{rejects_frames}
use Rattle.ertm_model.specs.Pair.{Sent}
use Rattle.recovery_laws.specs.Number.{weights, rejections, number_in, numbers, is_past, is_among, is_rejected}
use Rattle.recovery_laws.specs.Facts.{RisesTo, RunsToLast, Climbs, AcknowledgesUpTo}

-- ---- frames that join a queue

pub numbers-on : (queue more : List Sent) → numbers (queue ++ more) ≡ numbers queue ++ numbers more
numbers-on [] more = refl
numbers-on (sent ∷ queue) more =
    ap (λ (l : List ℕ). number_in sent.number sent.frame ++ l) (numbers-on queue more) ∙ sym (append_assoc (number_in sent.number sent.frame) (numbers queue) (numbers more))

-- an S-frame has no number
pub numbers-same : (queue : List Sent) (sent : Sent) → number_in sent.number sent.frame ≡ [] → numbers (queue ++ sent ∷ []) ≡ numbers queue
numbers-same queue sent none =
    numbers-on queue (sent ∷ []) ∙ ap (λ (l : List ℕ). numbers queue ++ (l ++ [])) none ∙ append-nil (numbers queue)

pub weights-on : (queue more : List Sent) → weights (queue ++ more) ≡ weights queue + weights more
weights-on [] more = omega arith
weights-on (sent ∷ queue) more = let e = weights-on queue more in omega arith

pub rejections-on : (queue more : List Sent) → rejections (queue ++ more) ≡ rejections queue + rejections more
rejections-on [] more = omega arith
rejections-on (sent ∷ queue) more = let e = rejections-on queue more in omega arith

-- ---- what a test says of a queue that one frame joins

pub any-on : (test : Sent → Bool) (queue : List Sent) (sent : Sent) → test sent ≡ true → list_any test (queue ++ sent ∷ []) ≡ true
any-on test queue sent is = list_any-append test queue (sent ∷ []) ∙ or_right (list_any test queue) (list_any test (sent ∷ [])) (or_left (test sent) false is)

pub none-before : (test : Sent → Bool) (queue more : List Sent) → list_any test (queue ++ more) ≡ false → list_any test queue ≡ false
none-before test queue more is = (or_parts (list_any test queue) (list_any test more) (sym (list_any-append test queue more) ∙ is)).0

pub none-on : (test : Sent → Bool) (queue : List Sent) (sent : Sent) → test sent ≡ false → list_any test (queue ++ sent ∷ []) ≡ list_any test queue
none-on test [] sent none = rw none refl
none-on test (first ∷ queue) sent none = ap (λ (b : Bool). test first || b) (none-on test queue sent none)

-- ---- numbers that follow one another

-- k numbers from one on
abbrev pub ups : (from k : ℕ) → List ℕ
ups from zero = []
ups from (suc k) = from ∷ ups (from + 1) k

-- where the numbers rise by one at most, none is left out between an accepted one and the last
pub between : (a n c m : ℕ) (behind : List ℕ) → a ≤ c → m ≤ c → c < n → RisesTo a n m behind → is_among c (m ∷ behind) ≡ true
between a n c m [] low le less h = or_left (m == c) false (eq-eqb m c (omega arith))
between a n c m (k ∷ behind) low le less (step, h) = elim (cases_order m c) [
  | inl same ↦ or_left (m == c) (is_among c (k ∷ behind)) (eq-eqb m c same)
  | inr (inl lt) ↦ or_right (m == c) (is_among c (k ∷ behind)) (between a n c k behind low (elim step [ inl e ↦ omega arith | inr e ↦ omega arith ]) less h)
  | inr (inr gt) ↦ absurd (omega arith)
]

-- the next one is not past what is expected then
pub not_past : (a n c m : ℕ) (behind : List ℕ) → a ≤ c → m + 1 ≤ c → RisesTo a n m behind → is_past c behind ≡ false
not_past a n c m [] low le h = refl
not_past a n c m (k ∷ behind) low le (step, h) = le-ltb c k (elim step [ inl e ↦ omega arith | inr e ↦ omega arith ])

follows_less : (a b n m : ℕ) (behind : List ℕ) → a ≤ b → RisesTo a n m behind → RisesTo b n m behind
follows_less a b n m [] le h = h
follows_less a b n m (k ∷ behind) le (step, h) = (elim step [ inl e ↦ inl e | inr e ↦ inr (omega arith) ], follows_less a b n k behind le h)

pub run-less : (a b n : ℕ) (run : List ℕ) → a ≤ b → RunsToLast a n run → RunsToLast b n run
run-less a b n [] le h = tt
run-less a b n (m ∷ behind) le h = follows_less a b n m behind le h

pub run-behind : (a n m : ℕ) (behind : List ℕ) → RisesTo a n m behind → RunsToLast a n behind
run-behind a n m [] h = tt
run-behind a n m (k ∷ behind) h = h.1

follows_new : (a n m : ℕ) (behind : List ℕ) → RisesTo a n m behind → RisesTo a (n + 1) m (behind ++ n ∷ [])
follows_new a n m [] h = (inl (omega arith), refl)
follows_new a n m (k ∷ behind) (step, h) = (step, follows_new a n k behind h)

-- a new frame is given
pub run-new : (a n : ℕ) (run : List ℕ) → RunsToLast a n run → RunsToLast a (n + 1) (run ++ n ∷ [])
run-new a n [] h = refl
run-new a n (m ∷ behind) h = follows_new a n m behind h

follows_ups : (a n m k : ℕ) → m + (k + 1) ≡ n → RisesTo a n m (ups (m + 1) k)
follows_ups a n m zero is = omega arith
follows_ups a n m (suc k) is = (inl (omega arith), follows_ups a n (m + 1) k (omega arith))

follows_again : (a n k m : ℕ) (behind : List ℕ) → a + k ≡ n → RisesTo a n m behind → RisesTo a n m (behind ++ ups a k)
follows_again a n zero m [] is h = h
follows_again a n (suc k) m [] is h = (inr (omega arith), follows_ups a n a k (omega arith))
follows_again a n k m (first ∷ behind) is (step, h) = (step, follows_again a n k first behind is h)

ups_run : (a n k : ℕ) → a + k ≡ n → RunsToLast a n (ups a k)
ups_run a n zero is = tt
ups_run a n (suc k) is = follows_ups a n a k (omega arith)

-- all that are not acknowledged are given again
pub run-again : (a n k : ℕ) (run : List ℕ) → a + k ≡ n → RunsToLast a n run → RunsToLast a n (run ++ ups a k)
run-again a n k [] is h = ups_run a n k is
run-again a n k (m ∷ behind) is h = follows_again a n k m behind is h

pub among-ups : (a c k : ℕ) → a ≤ c → c < a + k → is_among c (ups a k) ≡ true
among-ups a c zero low less = absurd (omega arith)
among-ups a c (suc k) low less = between a (a + (k + 1)) c a (ups (a + 1) k) low low (omega arith) (follows_ups a (a + (k + 1)) a k refl)

pub past-ups : (a c k : ℕ) → a ≤ c → is_past c (ups a k) ≡ false
past-ups a c zero low = refl
past-ups a c (suc k) low = le-ltb c a low

-- ---- ReqSeqs

climbs_low : (low c : ℕ) (queue : List Sent) → Climbs low c queue → low ≤ c
climbs_low low c [] h = omega arith
climbs_low low c (sent ∷ queue) h = let e = climbs_low sent.asks c queue h.1 in let f = h.0 in omega arith

climbs_on : (low c d : ℕ) (queue : List Sent) (sent : Sent) → c ≤ d → sent.asks ≡ d → Climbs low c queue → Climbs low d (queue ++ sent ∷ [])
climbs_on low c d [] sent le is h = (omega arith, is)
climbs_on low c d (first ∷ queue) sent le is h = (h.0, climbs_on first.asks c d queue sent le is h.1)

pub tells-on : (a c d : ℕ) (queue : List Sent) (sent : Sent) → c ≤ d → sent.asks ≡ d → AcknowledgesUpTo a c queue → AcknowledgesUpTo a d (queue ++ sent ∷ [])
tells-on a c d [] sent le is h = (omega arith, is)
tells-on a c d (first ∷ queue) sent le is h = (h.0, climbs_on first.asks c d queue sent le is h.1)

-- the first is heard
pub tells-heard : (a c : ℕ) (sent : Sent) (queue : List Sent) → AcknowledgesUpTo a c (sent ∷ queue) → AcknowledgesUpTo sent.asks c queue
tells-heard a c sent [] h = let e = h.1 in omega arith
tells-heard a c sent (next ∷ queue) h = h.1

-- it is lost
pub tells-lost : (a c : ℕ) (sent : Sent) (queue : List Sent) → a ≤ c → AcknowledgesUpTo a c (sent ∷ queue) → AcknowledgesUpTo a c queue
tells-lost a c sent [] le h = le
tells-lost a c sent (next ∷ queue) le h = let e = h.0 in let f = h.1.0 in (omega arith, h.1.1)

pub tells-below : (a c : ℕ) (sent : Sent) (queue : List Sent) → AcknowledgesUpTo a c (sent ∷ queue) → sent.asks ≤ c
tells-below a c sent queue h = climbs_low sent.asks c queue h.1

-- what names more than was accepted before is not there
abbrev rejects_at : ℕ → Sent → Bool
rejects_at c sent = rejects_frames sent.frame && (sent.asks == c)

climbs_unrejected : (low c d : ℕ) (queue : List Sent) → c < d → Climbs low c queue → is_rejected d queue ≡ false
climbs_unrejected low c d [] less h = refl
climbs_unrejected low c d (sent ∷ queue) less h =
    let below = climbs_low sent.asks c queue h.1 in
    let other = ne_eqb sent.asks d (λ is. omega (arith, is)) in
    or_from (rejects_at d sent) (is_rejected d queue) (and_right (rejects_frames sent.frame) (sent.asks == d) other) (climbs_unrejected sent.asks c d queue less h.1)

pub unrejected : (a c d : ℕ) (queue : List Sent) → c < d → AcknowledgesUpTo a c queue → is_rejected d queue ≡ false
unrejected a c d [] less h = refl
unrejected a c d (sent ∷ queue) less h =
    let below = tells-below a c sent queue h in
    let other = ne_eqb sent.asks d (λ is. omega (arith, is)) in
    or_from (rejects_at d sent) (is_rejected d queue) (and_right (rejects_frames sent.frame) (sent.asks == d) other) (climbs_unrejected sent.asks c d queue less h.1)
