-- A host gives no request more often than it tries.
use Rattle.std.proofs.Common.{◌≡◌, ℕ, ◌+◌, ◌≤◌, List, [], ◌∷◌, ◌++◌, map, Bool, true, false, cond, ◌||◌, eqb, not, Option, Some, None, refl, sym, ap, subst, ◌∙◌, ◌⊎◌, inl, inr, arith}
use Rattle.std.specs.Prelude.{find, filter}
use Rattle.std.specs.List.{list_any}
use Rattle.std.proofs.lemmas.Bool.{eqb-true}
use Rattle.channel_model.specs.declared.errand.Errand.{Errand}
use Rattle.channel_model.specs.declared.errand.Errand.TheVariants as errands
use Rattle.channel_model.specs.Value.{Request, Queued, Ask, Stage, Held, Channels}
use Rattle.channel_model.specs.Changing.{has_own, in_place_of, same_errand, is_copy, is_about}
use Rattle.channel_model.proofs.Lookups.{own_of, found-placed, find-placed, find-others, find-gone, eqb-same, eqb-away}
use Rattle.channel_model.proofs.Going.{staged}
use Rattle.own_channel_laws.specs.Tries.{for_channel, for_options, for_end, request_at, request_of, one_if, copies}

-- ---- copies

zero_more : (n : ℕ) → 0 + n ≡ n
zero_more n = omega arith

pub copies-less : (e : Errand) (passes : Queued → Bool) (queue : List Queued) → copies e (filter passes queue) ≤ copies e queue
copies-less e passes [] = omega arith
copies-less e passes (x ∷ queue) = by (passes x) (copies-less e passes queue)
  where
    by : (t : Bool) → copies e (filter passes queue) ≤ copies e queue → copies e (cond t (x ∷ filter passes queue) (filter passes queue)) ≤ one_if (is_copy e x) + copies e queue
    by true later = omega (arith, later)
    by false later = omega (arith, later)

pub copies-append : (e : Errand) (queue : List Queued) (x : Queued) → copies e (queue ++ x ∷ []) ≡ copies e queue + one_if (is_copy e x)
copies-append e [] x = omega arith
copies-append e (y ∷ queue) x = let later = copies-append e queue x in omega (arith, later)

copies_forgotten : (e : Errand) (queue : List Queued) → copies e (filter (λ x. not (is_copy e x)) queue) ≡ 0
copies_forgotten e [] = refl
copies_forgotten e (x ∷ queue) = by (is_copy e x) refl (copies_forgotten e queue)
  where
    by : (t : Bool) → is_copy e x ≡ t → copies e (filter (λ y. not (is_copy e y)) queue) ≡ 0 → copies e (cond (not t) (x ∷ filter (λ y. not (is_copy e y)) queue) (filter (λ y. not (is_copy e y)) queue)) ≡ 0
    by true is later = later
    by false is later = ap (λ t. one_if t + copies e (filter (λ y. not (is_copy e y)) queue)) is ∙ (zero_more (copies e (filter (λ y. not (is_copy e y)) queue)) ∙ later)

pub copies-none : (e : Errand) (queue : List Queued) → list_any (is_copy e) queue ≡ false → copies e queue ≡ 0
copies-none e [] is = refl
copies-none e (x ∷ queue) is = by (is_copy e x) is (copies-none e queue)
  where
    by : (t : Bool) → (t || list_any (is_copy e) queue) ≡ false → (list_any (is_copy e) queue ≡ false → copies e queue ≡ 0) → one_if t + copies e queue ≡ 0
    by true any later = cc
    by false any later = zero_more (copies e queue) ∙ later any

pub same-self : (e : Errand) → same_errand e e ≡ true
same-self (errands.Connection own) = eqb-same own
same-self (errands.Configuration own) = eqb-same own
same-self (errands.Disconnection own) = eqb-same own
same-self errands.Features = refl

-- a new request waits as one copy, and there are no more of any other
abbrev asked_queue : Errand → List Queued → List Queued
asked_queue errand queue = filter (λ x. not (is_copy errand x)) queue ++ Ask errand ∷ []

pub copies-asked : (e : Errand) (queue : List Queued) → copies e (asked_queue e queue) ≡ 1
copies-asked e queue = copies-append e (filter (λ x. not (is_copy e x)) queue) (Ask e) ∙ (ap (λ n. n + one_if (same_errand e e)) (copies_forgotten e queue) ∙ ap (λ t. 0 + one_if t) (same-self e))

pub copies-others : (e errand : Errand) (queue : List Queued) → same_errand e errand ≡ false → copies e (asked_queue errand queue) ≤ copies e queue
copies-others e errand queue apart =
    let whole = copies-append e (filter (λ x. not (is_copy errand x)) queue) (Ask errand) ∙ ap (λ t. copies e (filter (λ x. not (is_copy errand x)) queue) + one_if t) apart in
    let less = copies-less e (λ x. not (is_copy errand x)) queue in
    omega (arith, whole, less)

-- ---- one step

-- a request that waits is new, with at most one copy, or it is as it was, with no more copies
abbrev pub By : (after before : ℕ) → Option Request → Request → Type 0
By after before was r = ((r.given ≡ 0) × (after ≤ 1)) ⊎ ((was ≡ Some r) × (after ≤ before))

abbrev pub Tame : Channels → Channels → Type 0
Tame v w = (e : Errand) (r : Request) → request_of e w ≡ Some r → By (copies e w.queue) (copies e v.queue) (request_of e v) r

pub both-tame : (v u w : Channels) → Tame v u → Tame u w → Tame v w
both-tame v u w first second e r is = by (second e r is)
  where
    through : copies e w.queue ≤ copies e u.queue → By (copies e u.queue) (copies e v.queue) (request_of e v) r → By (copies e w.queue) (copies e v.queue) (request_of e v) r
    through less (inl (none, few)) = inl (none, omega (arith, less, few))
    through less (inr (was, lesser)) = inr (was, omega (arith, less, lesser))

    by : By (copies e w.queue) (copies e u.queue) (request_of e u) r → By (copies e w.queue) (copies e v.queue) (request_of e v) r
    by (inl new) = inl new
    by (inr (was, less)) = through less (first e r was)

pub same-requests : (v w : Channels) → w.held ≡ v.held → w.features ≡ v.features → (e : Errand) → request_of e w ≡ request_of e v
same-requests v w held features (errands.Connection own) = ap (λ hs. request_at for_channel (find (has_own own) hs)) held
same-requests v w held features (errands.Configuration own) = ap (λ hs. request_at for_options (find (has_own own) hs)) held
same-requests v w held features (errands.Disconnection own) = ap (λ hs. request_at for_end (find (has_own own) hs)) held
same-requests v w held features errands.Features = features

pub still-tame : (v w : Channels) → w.held ≡ v.held → w.features ≡ v.features → ((e : Errand) → copies e w.queue ≤ copies e v.queue) → Tame v w
still-tame v w held features less e r is = inr (sym (same-requests v w held features e) ∙ is, less e)

pub same-tame : (v : Channels) → Tame v v
same-tame v = still-tame v v refl refl (λ e. omega arith)

-- ---- one channel

-- how a request that waits comes from what waited, of the copies after and before
abbrev pub Descent : Type 1
Descent = (after before : ℕ) → Option Request → Request → Type 0

-- so may one that is as it was
abbrev pub Spares : Descent → Type 0
Spares D = (after before : ℕ) (was : Option Request) (r : Request) → was ≡ Some r → after ≤ before → D after before was r

abbrev pub Here : Descent → (after before : ℕ) → (now was : Option Request) → Type 0
Here D after before now was = (r : Request) → now ≡ Some r → D after before was r

-- a channel goes on to a stage
pub record Goes (D : Descent) (v w : Channels) (held : Held) (stage : Stage) : Type 0 where
  pub found : find (has_own held.own) v.held ≡ Some held
  pub held_is : w.held ≡ map (in_place_of (staged held stage)) v.held
  pub features_is : w.features ≡ v.features
  pub others : (e : Errand) → is_about held.own e ≡ false → copies e w.queue ≤ copies e v.queue
  pub channel : Here D (copies (errands.Connection held.own) w.queue) (copies (errands.Connection held.own) v.queue) (for_channel stage) (for_channel held.stage)
  pub options : Here D (copies (errands.Configuration held.own) w.queue) (copies (errands.Configuration held.own) v.queue) (for_options stage) (for_options held.stage)
  pub ending : Here D (copies (errands.Disconnection held.own) w.queue) (copies (errands.Disconnection held.own) v.queue) (for_end stage) (for_end held.stage)

at_place : (D : Descent) → Spares D → (v w : Channels) (held : Held) (stage : Stage) (f : Stage → Option Request) (after before : ℕ → ℕ) → find (has_own held.own) v.held ≡ Some held → w.held ≡ map (in_place_of (staged held stage)) v.held
    → ((own : ℕ) → eqb own held.own ≡ false → after own ≤ before own) → Here D (after held.own) (before held.own) (f stage) (f held.stage)
    → (own : ℕ) (r : Request) → request_at f (find (has_own own) w.held) ≡ Some r → D (after own) (before own) (request_at f (find (has_own own) v.held)) r
at_place D spares v w held stage f after before found held_is others here own r is = by (eqb held.own own) refl
  where
    by : (same : Bool) → eqb held.own own ≡ same → D (after own) (before own) (request_at f (find (has_own own) v.held)) r
    by true now =
        let same : held.own ≡ own = eqb-true held.own own now in
        let w_is : find (has_own held.own) w.held ≡ Some (staged held stage) = ap (find (has_own held.own)) held_is ∙ found-placed (staged held stage) held v.held found in
        let r_is : f stage ≡ Some r = sym (ap (request_at f) w_is) ∙ (ap (λ n. request_at f (find (has_own n) w.held)) same ∙ is) in
        subst (λ n. D (after n) (before n) (request_at f (find (has_own n) v.held)) r) same
        (subst (λ h. D (after held.own) (before held.own) (request_at f h) r) (sym found) (here r r_is))
    by false now =
        let w_is : find (has_own own) w.held ≡ find (has_own own) v.held = ap (find (has_own own)) held_is ∙ find-placed (staged held stage) v.held own now in
        spares (after own) (before own) (request_at f (find (has_own own) v.held)) r (sym (ap (request_at f) w_is) ∙ is) (others own (eqb-away held.own own now))

pub goes-so : (D : Descent) → Spares D → (v w : Channels) (held : Held) (stage : Stage) → Goes D v w held stage → (e : Errand) (r : Request) → request_of e w ≡ Some r → D (copies e w.queue) (copies e v.queue) (request_of e v) r
goes-so D spares v w held stage goes (errands.Connection own) r is =
    at_place D spares v w held stage for_channel (λ n. copies (errands.Connection n) w.queue) (λ n. copies (errands.Connection n) v.queue) goes.found goes.held_is (λ n apart. goes.others (errands.Connection n) apart) goes.channel own r is
goes-so D spares v w held stage goes (errands.Configuration own) r is =
    at_place D spares v w held stage for_options (λ n. copies (errands.Configuration n) w.queue) (λ n. copies (errands.Configuration n) v.queue) goes.found goes.held_is (λ n apart. goes.others (errands.Configuration n) apart) goes.options own r is
goes-so D spares v w held stage goes (errands.Disconnection own) r is =
    at_place D spares v w held stage for_end (λ n. copies (errands.Disconnection n) w.queue) (λ n. copies (errands.Disconnection n) v.queue) goes.found goes.held_is (λ n apart. goes.others (errands.Disconnection n) apart) goes.ending own r is
goes-so D spares v w held stage goes errands.Features r is = spares (copies errands.Features w.queue) (copies errands.Features v.queue) v.features r (sym goes.features_is ∙ is) (goes.others errands.Features refl)

by_same : Spares By
by_same after before was r is less = inr (is, less)

goes_tame : (v w : Channels) (held : Held) (stage : Stage) → Goes By v w held stage → Tame v w
goes_tame v w held stage goes = goes-so By by_same v w held stage goes

-- a request that is there no more, or as it was
abbrev pub Rests : (now was : Option Request) → Type 0
Rests now was = (now ≡ None) ⊎ (now ≡ was)

pub rests-here : (D : Descent) → Spares D → (after before : ℕ) (now was : Option Request) → after ≤ before → Rests now was → Here D after before now was
rests-here D spares after before now was less (inl none) r is = let never : None ≡ Some r = sym none ∙ is in absurd cc
rests-here D spares after before now was less (inr same) r is = spares after before was r (sym same ∙ is) less

-- it goes on with no new request
pub rests-tame : (v w : Channels) (held : Held) (stage : Stage) → find (has_own held.own) v.held ≡ Some held → w.held ≡ map (in_place_of (staged held stage)) v.held → w.features ≡ v.features → ((e : Errand) → copies e w.queue ≤ copies e v.queue)
    → Rests (for_channel stage) (for_channel held.stage) → Rests (for_options stage) (for_options held.stage) → Rests (for_end stage) (for_end held.stage) → Tame v w
rests-tame v w held stage found held_is features_is less a b c = goes_tame v w held stage (record {
  found = found;
  held_is = held_is;
  features_is = features_is;
  others = λ e apart. less e;
  channel = rests-here By by_same (copies (errands.Connection held.own) w.queue) (copies (errands.Connection held.own) v.queue) (for_channel stage) (for_channel held.stage) (less (errands.Connection held.own)) a;
  options = rests-here By by_same (copies (errands.Configuration held.own) w.queue) (copies (errands.Configuration held.own) v.queue) (for_options stage) (for_options held.stage) (less (errands.Configuration held.own)) b;
  ending = rests-here By by_same (copies (errands.Disconnection held.own) w.queue) (copies (errands.Disconnection held.own) v.queue) (for_end stage) (for_end held.stage) (less (errands.Disconnection held.own)) c;
})

-- a new request waits as its one copy
new_here : (errand : Errand) (queue after : List Queued) (before : ℕ) (request : Request) (now was : Option Request) → after ≡ asked_queue errand queue → now ≡ Some request → request.given ≡ 0 → Here By (copies errand after) before now was
new_here errand queue after before request now was queue_is asks none r is =
    let same : request ≡ r = some_is request r (sym asks ∙ is) in
    let given : r.given ≡ 0 = ap (λ (x : Request). x.given) (sym same) ∙ none in
    let one : copies errand after ≡ 1 = ap (copies errand) queue_is ∙ copies-asked errand queue in
    inl (given, omega (arith, one))
  where
    some_is : (x y : Request) → Some x ≡ Some y → x ≡ y
    some_is x y is = cc

-- and of any other no more copies wait
asked_less : (errand : Errand) (queue before after : List Queued) → after ≡ asked_queue errand queue → ((e : Errand) → copies e queue ≤ copies e before) → (e : Errand) → same_errand e errand ≡ false → copies e after ≤ copies e before
asked_less errand queue before after queue_is less e apart =
    let now : copies e after ≡ copies e (asked_queue errand queue) = ap (copies e) queue_is in
    let first = copies-others e errand queue apart in
    let second = less e in
    omega (arith, now, first, second)

-- it goes on with a new request for options
pub asks-options-tame : (v w : Channels) (held : Held) (stage : Stage) (request : Request) (queue : List Queued) → find (has_own held.own) v.held ≡ Some held → w.held ≡ map (in_place_of (staged held stage)) v.held → w.features ≡ v.features
    → w.queue ≡ asked_queue (errands.Configuration held.own) queue → ((e : Errand) → copies e queue ≤ copies e v.queue)
    → for_options stage ≡ Some request → request.given ≡ 0 → Rests (for_channel stage) (for_channel held.stage) → Rests (for_end stage) (for_end held.stage) → Tame v w
asks-options-tame v w held stage request queue found held_is features_is queue_is less asks none a c =
    let lower = asked_less (errands.Configuration held.own) queue v.queue w.queue queue_is less in
    goes_tame v w held stage (record {
      found = found;
      held_is = held_is;
      features_is = features_is;
      others = λ e apart. lower e (about e apart);
      channel = rests-here By by_same (copies (errands.Connection held.own) w.queue) (copies (errands.Connection held.own) v.queue) (for_channel stage) (for_channel held.stage) (lower (errands.Connection held.own) refl) a;
      options = new_here (errands.Configuration held.own) queue w.queue (copies (errands.Configuration held.own) v.queue) request (for_options stage) (for_options held.stage) queue_is asks none;
      ending = rests-here By by_same (copies (errands.Disconnection held.own) w.queue) (copies (errands.Disconnection held.own) v.queue) (for_end stage) (for_end held.stage) (lower (errands.Disconnection held.own) refl) c;
    })
  where
    about : (e : Errand) → is_about held.own e ≡ false → same_errand e (errands.Configuration held.own) ≡ false
    about (errands.Connection own) apart = refl
    about (errands.Configuration own) apart = apart
    about (errands.Disconnection own) apart = refl
    about errands.Features apart = refl

-- or for its end
pub asks-end-tame : (v w : Channels) (held : Held) (stage : Stage) (request : Request) (queue : List Queued) → find (has_own held.own) v.held ≡ Some held → w.held ≡ map (in_place_of (staged held stage)) v.held → w.features ≡ v.features
    → w.queue ≡ asked_queue (errands.Disconnection held.own) queue → ((e : Errand) → copies e queue ≤ copies e v.queue)
    → for_end stage ≡ Some request → request.given ≡ 0 → Rests (for_channel stage) (for_channel held.stage) → Rests (for_options stage) (for_options held.stage) → Tame v w
asks-end-tame v w held stage request queue found held_is features_is queue_is less asks none a b =
    let lower = asked_less (errands.Disconnection held.own) queue v.queue w.queue queue_is less in
    goes_tame v w held stage (record {
      found = found;
      held_is = held_is;
      features_is = features_is;
      others = λ e apart. lower e (about e apart);
      channel = rests-here By by_same (copies (errands.Connection held.own) w.queue) (copies (errands.Connection held.own) v.queue) (for_channel stage) (for_channel held.stage) (lower (errands.Connection held.own) refl) a;
      options = rests-here By by_same (copies (errands.Configuration held.own) w.queue) (copies (errands.Configuration held.own) v.queue) (for_options stage) (for_options held.stage) (lower (errands.Configuration held.own) refl) b;
      ending = new_here (errands.Disconnection held.own) queue w.queue (copies (errands.Disconnection held.own) v.queue) request (for_end stage) (for_end held.stage) queue_is asks none;
    })
  where
    about : (e : Errand) → is_about held.own e ≡ false → same_errand e (errands.Disconnection held.own) ≡ false
    about (errands.Connection own) apart = refl
    about (errands.Configuration own) apart = refl
    about (errands.Disconnection own) apart = apart
    about errands.Features apart = refl

-- it does not count any more
pub dropped-tame : (v w : Channels) (held : Held) → w.held ≡ filter (λ other. not (eqb other.own held.own)) v.held → w.features ≡ v.features → ((e : Errand) → copies e w.queue ≤ copies e v.queue) → Tame v w
dropped-tame v w held held_is features_is less e r is = by e r is
  where
    at : (f : Stage → Option Request) (own : ℕ) (r : Request) → request_at f (find (has_own own) w.held) ≡ Some r → request_at f (find (has_own own) v.held) ≡ Some r
    at f own r is = here (eqb held.own own) refl
      where
        here : (same : Bool) → eqb held.own own ≡ same → request_at f (find (has_own own) v.held) ≡ Some r
        here true now =
            let same : held.own ≡ own = eqb-true held.own own now in
            let none : find (has_own own) w.held ≡ None = ap (λ n. find (has_own n) w.held) (sym same) ∙ (ap (find (has_own held.own)) held_is ∙ find-gone own_of held.own v.held) in
            let never : None ≡ Some r = sym (ap (request_at f) none) ∙ is in absurd cc
        here false now = sym (ap (request_at f) (ap (find (has_own own)) held_is ∙ find-others own_of held.own own v.held now)) ∙ is

    by : (e : Errand) (r : Request) → request_of e w ≡ Some r → By (copies e w.queue) (copies e v.queue) (request_of e v) r
    by (errands.Connection own) r is = inr (at for_channel own r is, less (errands.Connection own))
    by (errands.Configuration own) r is = inr (at for_options own r is, less (errands.Configuration own))
    by (errands.Disconnection own) r is = inr (at for_end own r is, less (errands.Disconnection own))
    by errands.Features r is = inr (sym features_is ∙ is, less errands.Features)
