-- What waits to be given of a channel's requests for its options and for its end, in order.
use Rattle.std.proofs.Common.{◌≡◌, ℕ, ◌+◌, ◌≤◌, List, [], ◌∷◌, ◌++◌, Bool, true, false, cond, ◌||◌, eqb, not, refl, sym, ap, ◌∙◌, append-nil, arith}
use Rattle.std.specs.Prelude.{filter}
use Rattle.std.specs.List.{list_any}
use Rattle.std.proofs.lemmas.Bool.{eqb-true}
use Rattle.channel_model.specs.declared.errand.Errand.{Errand}
use Rattle.channel_model.specs.declared.errand.Errand.TheVariants as errands
use Rattle.channel_model.specs.Value.{Queued, Answer, Ask}
use Rattle.channel_model.specs.Changing.{same_errand, is_copy, is_about, is_copy_about}
use Rattle.channel_model.proofs.Lookups.{eqb-same, eqb-away}
use Rattle.own_channel_laws.specs.Tries.{one_if}

-- ---- marks: true for a request for options, false for one for the end

abbrev pub mark : ℕ → Errand → List Bool → List Bool
mark own (errands.Connection other) marks = marks
mark own (errands.Configuration other) marks = cond (eqb own other) (true ∷ marks) marks
mark own (errands.Disconnection other) marks = cond (eqb own other) (false ∷ marks) marks
mark own errands.Features marks = marks

abbrev pub marks : ℕ → List Queued → List Bool
marks own [] = []
marks own (Answer command ∷ queue) = marks own queue
marks own (Ask errand ∷ queue) = mark own errand (marks own queue)

-- the errand is one of the two
abbrev pub names : ℕ → Errand → Bool
names own (errands.Connection other) = false
names own (errands.Configuration other) = eqb own other
names own (errands.Disconnection other) = eqb own other
names own errands.Features = false

pub unnamed : (own : ℕ) (errand : Errand) (ms : List Bool) → names own errand ≡ false → mark own errand ms ≡ ms
unnamed own (errands.Connection other) ms is = refl
unnamed own (errands.Configuration other) ms is = ap (λ b. cond b (true ∷ ms) ms) is
unnamed own (errands.Disconnection other) ms is = ap (λ b. cond b (false ∷ ms) ms) is
unnamed own errands.Features ms is = refl

-- ---- one more waits

mark_append : (own : ℕ) (errand : Errand) (ms more : List Bool) → mark own errand (ms ++ more) ≡ mark own errand ms ++ more
mark_append own (errands.Connection other) ms more = refl
mark_append own (errands.Configuration other) ms more = by (eqb own other)
  where
    by : (b : Bool) → cond b (true ∷ (ms ++ more)) (ms ++ more) ≡ cond b (true ∷ ms) ms ++ more
    by true = refl
    by false = refl
mark_append own (errands.Disconnection other) ms more = by (eqb own other)
  where
    by : (b : Bool) → cond b (false ∷ (ms ++ more)) (ms ++ more) ≡ cond b (false ∷ ms) ms ++ more
    by true = refl
    by false = refl
mark_append own errands.Features ms more = refl

pub marks-append : (own : ℕ) (queue : List Queued) (one : Queued) → marks own (queue ++ one ∷ []) ≡ marks own queue ++ marks own (one ∷ [])
marks-append own [] one = refl
marks-append own (Answer command ∷ queue) one = marks-append own queue one
marks-append own (Ask errand ∷ queue) one = ap (mark own errand) (marks-append own queue one) ∙ mark_append own errand (marks own queue) (marks own (one ∷ []))

pub marks-answer : (own : ℕ) (queue : List Queued) (one : Queued) → marks own (one ∷ []) ≡ [] → marks own (queue ++ one ∷ []) ≡ marks own queue
marks-answer own queue one none = marks-append own queue one ∙ (ap (λ (ms : List Bool). marks own queue ++ ms) none ∙ append-nil (marks own queue))

pub marks-unnamed : (own : ℕ) (queue : List Queued) (errand : Errand) → names own errand ≡ false → marks own (queue ++ Ask errand ∷ []) ≡ marks own queue
marks-unnamed own queue errand is = marks-answer own queue (Ask errand) (unnamed own errand [] is)

-- ---- some wait no more

pub marks-filter : (own : ℕ) (p : Queued → Bool) (queue : List Queued) → ((errand : Errand) → p (Ask errand) ≡ false → names own errand ≡ false) → marks own (filter p queue) ≡ marks own queue
marks-filter own p [] none = refl
marks-filter own p (Answer command ∷ queue) none = by (p (Answer command)) (marks-filter own p queue none)
  where
    by : (b : Bool) → marks own (filter p queue) ≡ marks own queue → marks own (cond b (Answer command ∷ filter p queue) (filter p queue)) ≡ marks own queue
    by true later = later
    by false later = later
marks-filter own p (Ask errand ∷ queue) none = by (p (Ask errand)) refl (marks-filter own p queue none)
  where
    by : (b : Bool) → p (Ask errand) ≡ b → marks own (filter p queue) ≡ marks own queue → marks own (cond b (Ask errand ∷ filter p queue) (filter p queue)) ≡ mark own errand (marks own queue)
    by true is later = ap (mark own errand) later
    by false is later = later ∙ sym (unnamed own errand (marks own queue) (none errand is))

not_false : (b : Bool) → not b ≡ false → b ≡ true
not_false true is = refl
not_false false is = cc

-- of another channel
apart_by : (own other n : ℕ) → eqb own n ≡ false → eqb own other ≡ true → eqb n other ≡ false
apart_by own other n apart is = ap (eqb n) (sym (eqb-true own other is)) ∙ eqb-away own n apart

-- the errand is not one of the two of this channel
abbrev pub IsApart : ℕ → Errand → Type 0
IsApart n errand = (other : Errand) → not (same_errand errand other) ≡ false → names n other ≡ false

pub connection-apart : (own n : ℕ) → IsApart n (errands.Connection own)
connection-apart own n (errands.Connection other) is = refl
connection-apart own n (errands.Configuration other) is = cc
connection-apart own n (errands.Disconnection other) is = cc
connection-apart own n errands.Features is = refl

pub features-apart : (n : ℕ) → IsApart n errands.Features
features-apart n (errands.Connection other) is = refl
features-apart n (errands.Configuration other) is = cc
features-apart n (errands.Disconnection other) is = cc
features-apart n errands.Features is = refl

pub options-apart : (own n : ℕ) → eqb own n ≡ false → IsApart n (errands.Configuration own)
options-apart own n apart (errands.Connection other) is = refl
options-apart own n apart (errands.Configuration other) is = apart_by own other n apart (not_false (eqb own other) is)
options-apart own n apart (errands.Disconnection other) is = cc
options-apart own n apart errands.Features is = refl

pub end-apart : (own n : ℕ) → eqb own n ≡ false → IsApart n (errands.Disconnection own)
end-apart own n apart (errands.Connection other) is = refl
end-apart own n apart (errands.Configuration other) is = cc
end-apart own n apart (errands.Disconnection other) is = apart_by own other n apart (not_false (eqb own other) is)
end-apart own n apart errands.Features is = refl

pub marks-forgotten : (n : ℕ) (errand : Errand) (queue : List Queued) → IsApart n errand → marks n (filter (λ waiting. not (is_copy errand waiting)) queue) ≡ marks n queue
marks-forgotten n errand queue apart = marks-filter n (λ waiting. not (is_copy errand waiting)) queue apart

pub marks-asked : (n : ℕ) (errand : Errand) (queue : List Queued) → names n errand ≡ false → IsApart n errand → marks n (filter (λ waiting. not (is_copy errand waiting)) queue ++ Ask errand ∷ []) ≡ marks n queue
marks-asked n errand queue is apart = marks-unnamed n (filter (λ waiting. not (is_copy errand waiting)) queue) errand is ∙ marks-forgotten n errand queue apart

-- nothing is asked of a channel that is gone, and of another one as before
about_apart : (own n : ℕ) → eqb own n ≡ false → (other : Errand) → not (is_about own other) ≡ false → names n other ≡ false
about_apart own n apart (errands.Connection other) is = refl
about_apart own n apart (errands.Configuration other) is = apart_by own other n apart (ap (eqb own) (eqb-true other own (not_false (eqb other own) is)) ∙ eqb-same own)
about_apart own n apart (errands.Disconnection other) is = apart_by own other n apart (ap (eqb own) (eqb-true other own (not_false (eqb other own) is)) ∙ eqb-same own)
about_apart own n apart errands.Features is = refl

pub marks-gone : (own n : ℕ) (queue : List Queued) → eqb own n ≡ false → marks n (filter (λ waiting. not (is_copy_about own waiting)) queue) ≡ marks n queue
marks-gone own n queue apart = marks-filter n (λ waiting. not (is_copy_about own waiting)) queue (about_apart own n apart)

-- ---- how many of each, and whether the last is one for options

abbrev pub ones : List Bool → ℕ
ones [] = 0
ones (b ∷ bs) = one_if b + ones bs

abbrev pub zeros : List Bool → ℕ
zeros [] = 0
zeros (b ∷ bs) = one_if (not b) + zeros bs

abbrev pub lag_behind : Bool → List Bool → ℕ
lag_behind b [] = one_if b
lag_behind b (next ∷ bs) = lag_behind next bs

abbrev pub lag : List Bool → ℕ
lag [] = 0
lag (b ∷ bs) = lag_behind b bs

pub ones-last : (bs : List Bool) (b : Bool) → ones (bs ++ b ∷ []) ≡ ones bs + one_if b
ones-last [] b = omega arith
ones-last (x ∷ bs) b = let later = ones-last bs b in omega (arith, later)

pub zeros-last : (bs : List Bool) (b : Bool) → zeros (bs ++ b ∷ []) ≡ zeros bs + one_if (not b)
zeros-last [] b = omega arith
zeros-last (x ∷ bs) b = let later = zeros-last bs b in omega (arith, later)

behind_last : (a : Bool) (bs : List Bool) (b : Bool) → lag_behind a (bs ++ b ∷ []) ≡ one_if b
behind_last a [] b = refl
behind_last a (x ∷ bs) b = behind_last x bs b

pub lag-last : (bs : List Bool) (b : Bool) → lag (bs ++ b ∷ []) ≡ one_if b
lag-last [] b = refl
lag-last (x ∷ bs) b = behind_last x bs b

pub lag-first : (b : Bool) (bs : List Bool) → lag bs ≤ lag (b ∷ bs)
lag-first b [] = omega arith
lag-first b (x ∷ bs) = omega arith

behind_most : (b : Bool) (bs : List Bool) → lag_behind b bs ≤ one_if b + ones bs
behind_most b [] = omega arith
behind_most b (x ∷ bs) = let later = behind_most x bs in omega (arith, later)

pub lag-most : (bs : List Bool) → lag bs ≤ ones bs
lag-most [] = omega arith
lag-most (b ∷ bs) = behind_most b bs

pub lag-one : (bs : List Bool) → lag bs ≤ 1
lag-one [] = omega arith
lag-one (b ∷ bs) = behind_one b bs
  where
    if_one : (b : Bool) → one_if b ≤ 1
    if_one true = omega arith
    if_one false = omega arith

    behind_one : (b : Bool) (bs : List Bool) → lag_behind b bs ≤ 1
    behind_one b [] = if_one b
    behind_one b (x ∷ bs) = behind_one x bs

-- where all are for options
behind_all : (b : Bool) (bs : List Bool) → one_if (not b) + zeros bs ≡ 0 → 1 ≤ lag_behind b bs
behind_all true [] none = omega arith
behind_all false [] none = absurd (omega (arith, none))
behind_all b (x ∷ bs) none = behind_all x bs (omega (arith, none))

pub lag-all : (bs : List Bool) → zeros bs ≡ 0 → 1 ≤ ones bs → 1 ≤ lag bs
lag-all [] none some = absurd (omega (arith, some))
lag-all (b ∷ bs) none some = behind_all b bs none

-- ---- what waits of the channel itself

zero_more : (n : ℕ) → 0 + n ≡ n
zero_more n = omega arith

-- the end waits no more
pub ends-forgotten : (own : ℕ) (queue : List Queued) → (let rest : List Queued = filter (λ waiting. not (is_copy (errands.Disconnection own) waiting)) queue in (zeros (marks own rest) ≡ 0) × (ones (marks own rest) ≡ ones (marks own queue)))
ends-forgotten own [] = (refl, refl)
ends-forgotten own (Answer command ∷ queue) = ends-forgotten own queue
ends-forgotten own (Ask (errands.Connection other) ∷ queue) = ends-forgotten own queue
ends-forgotten own (Ask errands.Features ∷ queue) = ends-forgotten own queue
ends-forgotten own (Ask (errands.Configuration other) ∷ queue) = by (eqb own other) (ends-forgotten own queue)
  where
    rest : List Queued
    rest = filter (λ waiting. not (is_copy (errands.Disconnection own) waiting)) queue

    by : (b : Bool) → (zeros (marks own rest) ≡ 0) × (ones (marks own rest) ≡ ones (marks own queue))
        → (zeros (cond b (true ∷ marks own rest) (marks own rest)) ≡ 0) × (ones (cond b (true ∷ marks own rest) (marks own rest)) ≡ ones (cond b (true ∷ marks own queue) (marks own queue)))
    by true later = (zero_more (zeros (marks own rest)) ∙ later.0, ap (λ n. 1 + n) later.1)
    by false later = later
ends-forgotten own (Ask (errands.Disconnection other) ∷ queue) = by (eqb own other) refl (ends-forgotten own queue)
  where
    rest : List Queued
    rest = filter (λ waiting. not (is_copy (errands.Disconnection own) waiting)) queue

    kept : List Queued
    kept = Ask (errands.Disconnection other) ∷ rest

    by : (b : Bool) → eqb own other ≡ b → (zeros (marks own rest) ≡ 0) × (ones (marks own rest) ≡ ones (marks own queue))
        → (let now : List Queued = cond (not b) kept rest in (zeros (marks own now) ≡ 0) × (ones (marks own now) ≡ ones (mark own (errands.Disconnection other) (marks own queue))))
    by true is later = (later.0, later.1 ∙ (sym (zero_more (ones (marks own queue))) ∙ ap (λ t. ones (cond t (false ∷ marks own queue) (marks own queue))) (sym is)))
    by false is later = (
      ap zeros (unnamed own (errands.Disconnection other) (marks own rest) is) ∙ later.0,
      ap ones (unnamed own (errands.Disconnection other) (marks own rest) is) ∙ (later.1 ∙ ap ones (sym (unnamed own (errands.Disconnection other) (marks own queue) is))),
    )

-- by what is due
pub no-ends : (own : ℕ) (queue : List Queued) → list_any (is_copy (errands.Disconnection own)) queue ≡ false → zeros (marks own queue) ≡ 0
no-ends own [] is = refl
no-ends own (Answer command ∷ queue) is = no-ends own queue is
no-ends own (Ask (errands.Connection other) ∷ queue) is = no-ends own queue is
no-ends own (Ask errands.Features ∷ queue) is = no-ends own queue is
no-ends own (Ask (errands.Configuration other) ∷ queue) is = by (eqb own other) (no-ends own queue is)
  where
    by : (b : Bool) → zeros (marks own queue) ≡ 0 → zeros (cond b (true ∷ marks own queue) (marks own queue)) ≡ 0
    by true later = zero_more (zeros (marks own queue)) ∙ later
    by false later = later
no-ends own (Ask (errands.Disconnection other) ∷ queue) is = by (eqb own other) is (no-ends own queue)
  where
    by : (b : Bool) → (b || list_any (is_copy (errands.Disconnection own)) queue) ≡ false → (list_any (is_copy (errands.Disconnection own)) queue ≡ false → zeros (marks own queue) ≡ 0) → zeros (cond b (false ∷ marks own queue) (marks own queue)) ≡ 0
    by true any later = cc
    by false any later = later any

pub some-ones : (own : ℕ) (queue : List Queued) → list_any (is_copy (errands.Configuration own)) queue ≡ true → 1 ≤ ones (marks own queue)
some-ones own [] is = cc
some-ones own (Answer command ∷ queue) is = some-ones own queue is
some-ones own (Ask (errands.Connection other) ∷ queue) is = some-ones own queue is
some-ones own (Ask errands.Features ∷ queue) is = some-ones own queue is
some-ones own (Ask (errands.Disconnection other) ∷ queue) is = by (eqb own other) (some-ones own queue is)
  where
    by : (b : Bool) → 1 ≤ ones (marks own queue) → 1 ≤ ones (cond b (false ∷ marks own queue) (marks own queue))
    by true later = omega (arith, later)
    by false later = later
some-ones own (Ask (errands.Configuration other) ∷ queue) is = by (eqb own other) is (some-ones own queue)
  where
    by : (b : Bool) → (b || list_any (is_copy (errands.Configuration own)) queue) ≡ true → (list_any (is_copy (errands.Configuration own)) queue ≡ true → 1 ≤ ones (marks own queue)) → 1 ≤ ones (cond b (true ∷ marks own queue) (marks own queue))
    by true any later = omega arith
    by false any later = later any
