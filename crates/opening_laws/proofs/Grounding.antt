-- Each copy of a request that waits to be given is one of a request that waits for its response: what each step makes of that.
use Rattle.std.proofs.Common.{◌≡◌, ℕ, ◌≤◌, List, [], ◌∷◌, ◌++◌, map, Bool, true, false, cond, eqb, not, Option, Some, None, refl, sym, ap, ◌∙◌, ◌⊎◌, inl, inr, arith}
use Rattle.std.specs.Prelude.{find, filter}
use Rattle.std.proofs.lemmas.Bool.{eqb-true}
use Rattle.channel_laws.specs.channel_model.specs.declared.errand.Errand.{Errand}
use Rattle.channel_laws.specs.channel_model.specs.declared.errand.Errand.TheVariants as errands
use Rattle.channel_laws.specs.channel_model.specs.Value.{Request, Queued, Answer, Ask, Stage, Held, Channels}
use Rattle.channel_laws.specs.channel_model.specs.Changing.{has_own, in_place_of, same_errand, is_copy, is_about, is_copy_about}
use Rattle.channel_laws.specs.channel_model.proofs.Lookups.{own_of, found-placed, find-placed, find-others, eqb-away}
use Rattle.channel_laws.specs.channel_model.proofs.Going.{staged}
use Rattle.channel_laws.specs.Tries.{for_channel, for_options, for_end, request_at, request_of, one_if, copies}
use Rattle.channel_laws.proofs.Spending.{same-is}
use Rattle.channel_laws.proofs.Trying.{copies-append, copies-asked, copies-others, copies-less, same-self, same-requests}

abbrev pub Grounded : Channels → Type 0
Grounded v = (e : Errand) → request_of e v ≡ None → copies e v.queue ≡ 0

abbrev pub Grounds : Channels → Channels → Type 0
Grounds v w = Grounded v → Grounded w

pub both-grounds : (v u w : Channels) → Grounds v u → Grounds u w → Grounds v w
both-grounds v u w one other so = other (one so)

pub zero-of : (a b : ℕ) → a ≤ b → b ≡ 0 → a ≡ 0
zero-of a b less none = omega (arith, less, none)

pub still-grounds : (v w : Channels) → w.held ≡ v.held → w.features ≡ v.features → ((e : Errand) → copies e w.queue ≤ copies e v.queue) → Grounds v w
still-grounds v w held features less so e is = zero-of (copies e w.queue) (copies e v.queue) (less e) (so e (sym (same-requests v w held features e) ∙ is))

pub same-grounds : (v : Channels) → Grounds v v
same-grounds v so = so

-- ---- copies

-- none is left of a request that is forgotten
pub forgot : (e : Errand) (queue : List Queued) → copies e (filter (λ x. not (is_copy e x)) queue) ≡ 0
forgot e queue =
    let rest : List Queued = filter (λ x. not (is_copy e x)) queue in
    let whole = copies-append e rest (Ask e) in
    let one = copies-asked e queue in
    let same : one_if (same_errand e e) ≡ 1 = ap one_if (same-self e) in
    omega (arith, whole, one, same)

-- nor of one about a channel that does not count any more
about_none : (own : ℕ) (e : Errand) (queue : List Queued) → is_about own e ≡ true → copies e (filter (λ x. not (is_copy_about own x)) queue) ≡ 0
about_none own e [] about = refl
about_none own e (Answer command ∷ queue) about = let later = about_none own e queue about in omega (arith, later)
about_none own e (Ask other ∷ queue) about = by (is_about own other) refl (same_errand e other) refl (about_none own e queue about)
  where
    by : (gone : Bool) → is_about own other ≡ gone → (same : Bool) → same_errand e other ≡ same → copies e (filter (λ x. not (is_copy_about own x)) queue) ≡ 0
        → copies e (cond (not gone) (Ask other ∷ filter (λ x. not (is_copy_about own x)) queue) (filter (λ x. not (is_copy_about own x)) queue)) ≡ 0
    by true g same s later = later
    by false g true s later = let never : true ≡ false = sym about ∙ (ap (is_about own) (same-is e other s) ∙ g) in absurd cc
    by false g false s later = let none : one_if (same_errand e other) ≡ 0 = ap one_if s in omega (arith, none, later)

-- ---- one channel

-- Where there is no request after a step there was none before, and no more copies wait; or none waits.
abbrev pub Lapses : (after before : ℕ) → (now was : Option Request) → Type 0
Lapses after before now was = now ≡ None → ((was ≡ None) × (after ≤ before)) ⊎ (after ≡ 0)

-- there was none, or no copy waits; or it is as it was
abbrev pub Keeps : (after : ℕ) → (now was : Option Request) → Type 0
Keeps after now was = ((was ≡ None) ⊎ (after ≡ 0)) ⊎ (now ≡ was)

pub keeps-lapses : (after between before : ℕ) (now was : Option Request) → after ≤ between → between ≤ before → Keeps between now was → Lapses after before now was
keeps-lapses after between before now was less lesser (inl (inl is)) none = inl (is, omega (arith, less, lesser))
keeps-lapses after between before now was less lesser (inl (inr zero)) none = inr (zero-of after between less zero)
keeps-lapses after between before now was less lesser (inr same) none = inl (sym same ∙ none, omega (arith, less, lesser))

at_place : (v w : Channels) (held : Held) (stage : Stage) (f : Stage → Option Request) (after before : ℕ → ℕ) → find (has_own held.own) v.held ≡ Some held → w.held ≡ map (in_place_of (staged held stage)) v.held
    → ((own : ℕ) → eqb own held.own ≡ false → after own ≤ before own) → Lapses (after held.own) (before held.own) (f stage) (f held.stage)
    → ((own : ℕ) → request_at f (find (has_own own) v.held) ≡ None → before own ≡ 0)
    → (own : ℕ) → request_at f (find (has_own own) w.held) ≡ None → after own ≡ 0
at_place v w held stage f after before found held_is others here so own is = by (eqb held.own own) refl
  where
    at : request_at f (find (has_own held.own) w.held) ≡ None → ((f held.stage ≡ None) × (after held.own ≤ before held.own)) ⊎ (after held.own ≡ 0) → after held.own ≡ 0
    at none (inl (was, less)) = zero-of (after held.own) (before held.own) less (so held.own (ap (request_at f) found ∙ was))
    at none (inr zero) = zero

    by : (same : Bool) → eqb held.own own ≡ same → after own ≡ 0
    by true now =
        let same : held.own ≡ own = eqb-true held.own own now in
        let w_is : find (has_own held.own) w.held ≡ Some (staged held stage) = ap (find (has_own held.own)) held_is ∙ found-placed (staged held stage) held v.held found in
        let none : request_at f (find (has_own held.own) w.held) ≡ None = ap (λ n. request_at f (find (has_own n) w.held)) same ∙ is in
        sym (ap after same) ∙ at none (here (sym (ap (request_at f) w_is) ∙ none))
    by false now =
        let w_is : find (has_own own) w.held ≡ find (has_own own) v.held = ap (find (has_own own)) held_is ∙ find-placed (staged held stage) v.held own now in
        zero-of (after own) (before own) (others own (eqb-away held.own own now)) (so own (sym (ap (request_at f) w_is) ∙ is))

-- a channel goes on to a stage
pub goes-grounds : (v w : Channels) (held : Held) (stage : Stage) → find (has_own held.own) v.held ≡ Some held → w.held ≡ map (in_place_of (staged held stage)) v.held → w.features ≡ v.features
    → ((e : Errand) → is_about held.own e ≡ false → copies e w.queue ≤ copies e v.queue)
    → Lapses (copies (errands.Connection held.own) w.queue) (copies (errands.Connection held.own) v.queue) (for_channel stage) (for_channel held.stage)
    → Lapses (copies (errands.Configuration held.own) w.queue) (copies (errands.Configuration held.own) v.queue) (for_options stage) (for_options held.stage)
    → Lapses (copies (errands.Disconnection held.own) w.queue) (copies (errands.Disconnection held.own) v.queue) (for_end stage) (for_end held.stage) → Grounds v w
goes-grounds v w held stage found held_is features_is others a b c so (errands.Connection own) is =
    at_place v w held stage for_channel (λ n. copies (errands.Connection n) w.queue) (λ n. copies (errands.Connection n) v.queue) found held_is (λ n apart. others (errands.Connection n) apart) a (λ n none. so (errands.Connection n) none) own is
goes-grounds v w held stage found held_is features_is others a b c so (errands.Configuration own) is =
    at_place v w held stage for_options (λ n. copies (errands.Configuration n) w.queue) (λ n. copies (errands.Configuration n) v.queue) found held_is (λ n apart. others (errands.Configuration n) apart) b (λ n none. so (errands.Configuration n) none) own is
goes-grounds v w held stage found held_is features_is others a b c so (errands.Disconnection own) is =
    at_place v w held stage for_end (λ n. copies (errands.Disconnection n) w.queue) (λ n. copies (errands.Disconnection n) v.queue) found held_is (λ n apart. others (errands.Disconnection n) apart) c (λ n none. so (errands.Disconnection n) none) own is
goes-grounds v w held stage found held_is features_is others a b c so errands.Features is =
    zero-of (copies errands.Features w.queue) (copies errands.Features v.queue) (others errands.Features refl) (so errands.Features (sym features_is ∙ is))

-- it goes on with no new request
pub rests-grounds : (v w : Channels) (held : Held) (stage : Stage) → find (has_own held.own) v.held ≡ Some held → w.held ≡ map (in_place_of (staged held stage)) v.held → w.features ≡ v.features → ((e : Errand) → copies e w.queue ≤ copies e v.queue)
    → Keeps (copies (errands.Connection held.own) w.queue) (for_channel stage) (for_channel held.stage) → Keeps (copies (errands.Configuration held.own) w.queue) (for_options stage) (for_options held.stage)
    → Keeps (copies (errands.Disconnection held.own) w.queue) (for_end stage) (for_end held.stage) → Grounds v w
rests-grounds v w held stage found held_is features_is less a b c = goes-grounds v w held stage found held_is features_is (λ e apart. less e) (at (errands.Connection held.own) a) (at (errands.Configuration held.own) b) (at (errands.Disconnection held.own) c)
  where
    at : (e : Errand) {now was : Option Request} → Keeps (copies e w.queue) now was → Lapses (copies e w.queue) (copies e v.queue) now was
    at e {now = now} {was = was} keeps = keeps-lapses (copies e w.queue) (copies e w.queue) (copies e v.queue) now was (omega arith) (less e) keeps

-- a new request waits as a copy of its own, and of any other no more copies wait
abbrev pub asked_queue : Errand → List Queued → List Queued
asked_queue errand queue = filter (λ x. not (is_copy errand x)) queue ++ Ask errand ∷ []

new_lapses : (after before : ℕ) (now was : Option Request) (request : Request) → now ≡ Some request → Lapses after before now was
new_lapses after before now was request asks none = let never : None ≡ Some request = sym none ∙ asks in absurd cc

asked_less : (errand : Errand) (queue after : List Queued) → after ≡ asked_queue errand queue → (e : Errand) → same_errand e errand ≡ false → copies e after ≤ copies e queue
asked_less errand queue after queue_is e apart =
    let now : copies e after ≡ copies e (asked_queue errand queue) = ap (copies e) queue_is in
    let first = copies-others e errand queue apart in
    omega (arith, now, first)

-- it goes on with a new request for options
pub asks-options-grounds : (v w : Channels) (held : Held) (stage : Stage) (request : Request) (queue : List Queued) → find (has_own held.own) v.held ≡ Some held → w.held ≡ map (in_place_of (staged held stage)) v.held → w.features ≡ v.features
    → w.queue ≡ asked_queue (errands.Configuration held.own) queue → ((e : Errand) → copies e queue ≤ copies e v.queue)
    → for_options stage ≡ Some request → Keeps (copies (errands.Connection held.own) queue) (for_channel stage) (for_channel held.stage) → Keeps (copies (errands.Disconnection held.own) queue) (for_end stage) (for_end held.stage) → Grounds v w
asks-options-grounds v w held stage request queue found held_is features_is queue_is less asks a c =
    goes-grounds v w held stage found held_is features_is (λ e apart. let one = lower e (about e apart) in let two = less e in omega (arith, one, two))
    (keeps-lapses (copies (errands.Connection held.own) w.queue) (copies (errands.Connection held.own) queue) (copies (errands.Connection held.own) v.queue) (for_channel stage) (for_channel held.stage) (lower (errands.Connection held.own) refl) (less (errands.Connection held.own)) a)
    (new_lapses (copies (errands.Configuration held.own) w.queue) (copies (errands.Configuration held.own) v.queue) (for_options stage) (for_options held.stage) request asks)
    (keeps-lapses (copies (errands.Disconnection held.own) w.queue) (copies (errands.Disconnection held.own) queue) (copies (errands.Disconnection held.own) v.queue) (for_end stage) (for_end held.stage) (lower (errands.Disconnection held.own) refl) (less (errands.Disconnection held.own)) c)
  where
    lower : (e : Errand) → same_errand e (errands.Configuration held.own) ≡ false → copies e w.queue ≤ copies e queue
    lower e apart = asked_less (errands.Configuration held.own) queue w.queue queue_is e apart

    about : (e : Errand) → is_about held.own e ≡ false → same_errand e (errands.Configuration held.own) ≡ false
    about (errands.Connection own) apart = refl
    about (errands.Configuration own) apart = apart
    about (errands.Disconnection own) apart = refl
    about errands.Features apart = refl

-- or for its end
pub asks-end-grounds : (v w : Channels) (held : Held) (stage : Stage) (request : Request) (queue : List Queued) → find (has_own held.own) v.held ≡ Some held → w.held ≡ map (in_place_of (staged held stage)) v.held → w.features ≡ v.features
    → w.queue ≡ asked_queue (errands.Disconnection held.own) queue → ((e : Errand) → copies e queue ≤ copies e v.queue)
    → for_end stage ≡ Some request → Keeps (copies (errands.Connection held.own) queue) (for_channel stage) (for_channel held.stage) → Keeps (copies (errands.Configuration held.own) queue) (for_options stage) (for_options held.stage) → Grounds v w
asks-end-grounds v w held stage request queue found held_is features_is queue_is less asks a b =
    goes-grounds v w held stage found held_is features_is (λ e apart. let one = lower e (about e apart) in let two = less e in omega (arith, one, two))
    (keeps-lapses (copies (errands.Connection held.own) w.queue) (copies (errands.Connection held.own) queue) (copies (errands.Connection held.own) v.queue) (for_channel stage) (for_channel held.stage) (lower (errands.Connection held.own) refl) (less (errands.Connection held.own)) a)
    (keeps-lapses (copies (errands.Configuration held.own) w.queue) (copies (errands.Configuration held.own) queue) (copies (errands.Configuration held.own) v.queue) (for_options stage) (for_options held.stage) (lower (errands.Configuration held.own) refl) (less (errands.Configuration held.own)) b)
    (new_lapses (copies (errands.Disconnection held.own) w.queue) (copies (errands.Disconnection held.own) v.queue) (for_end stage) (for_end held.stage) request asks)
  where
    lower : (e : Errand) → same_errand e (errands.Disconnection held.own) ≡ false → copies e w.queue ≤ copies e queue
    lower e apart = asked_less (errands.Disconnection held.own) queue w.queue queue_is e apart

    about : (e : Errand) → is_about held.own e ≡ false → same_errand e (errands.Disconnection held.own) ≡ false
    about (errands.Connection own) apart = refl
    about (errands.Configuration own) apart = refl
    about (errands.Disconnection own) apart = apart
    about errands.Features apart = refl

-- it does not count any more
pub gone_grounds : (v w : Channels) (held : Held) → w.held ≡ filter (λ other. not (eqb other.own held.own)) v.held → w.features ≡ v.features → w.queue ≡ filter (λ x. not (is_copy_about held.own x)) v.queue → Grounds v w
gone_grounds v w held held_is features_is queue_is so e is = ap (copies e) queue_is ∙ by e is
  where
    zero : (e : Errand) → (is_about held.own e ≡ false → request_of e v ≡ None) → copies e (filter (λ x. not (is_copy_about held.own x)) v.queue) ≡ 0
    zero e was = at (is_about held.own e) refl
      where
        at : (about : Bool) → is_about held.own e ≡ about → copies e (filter (λ x. not (is_copy_about held.own x)) v.queue) ≡ 0
        at true about = about_none held.own e v.queue about
        at false about = zero-of (copies e (filter (λ x. not (is_copy_about held.own x)) v.queue)) (copies e v.queue) (copies-less e (λ x. not (is_copy_about held.own x)) v.queue) (so e (was about))

    still : (f : Stage → Option Request) (own : ℕ) → request_at f (find (has_own own) w.held) ≡ None → eqb own held.own ≡ false → request_at f (find (has_own own) v.held) ≡ None
    still f own none apart = sym (ap (request_at f) (ap (find (has_own own)) held_is ∙ find-others own_of held.own own v.held (eqb-away own held.own apart))) ∙ none

    by : (e : Errand) → request_of e w ≡ None → copies e (filter (λ x. not (is_copy_about held.own x)) v.queue) ≡ 0
    by (errands.Connection own) none = zero (errands.Connection own) (still for_channel own none)
    by (errands.Configuration own) none = zero (errands.Configuration own) (still for_options own none)
    by (errands.Disconnection own) none = zero (errands.Disconnection own) (still for_end own none)
    by errands.Features none = zero errands.Features (λ apart. sym features_is ∙ none)
