-- Where a calm host has nothing to give, no answer waits, and none does behind what happens without a PDU.
use Rattle.std.proofs.Common.{◌≡◌, ℕ, Bool, true, false, cond, ◌||◌, List, [], ◌∷◌, ◌++◌, map, length, Option, Some, None, refl, sym, ap, subst, ◌∙◌, append_assoc, append-nil}
use Rattle.std.specs.Prelude.{filter, find, is_some, nat_lt}
use Rattle.std.specs.List.{AllByRecursion, list_any, filter_map}
use Rattle.std.proofs.lemmas.List.Sums.{fold-append}
use Rattle.channel_laws.specs.channel_model.specs.declared.errand.Errand.TheVariants as errands
use Rattle.channel_laws.specs.channel_model.specs.Asking.{asks, new_request, Fired, StillDue, OnceMore, Spent, fired}
use Rattle.channel_laws.specs.channel_model.specs.Calls.{asks_features}
use Rattle.channel_laws.specs.channel_model.specs.Changing.{held_at, is_answer, has_room}
use Rattle.channel_laws.specs.channel_model.specs.Giving.{gives}
use Rattle.channel_laws.specs.channel_model.specs.Policies.{Policy}
use Rattle.channel_laws.specs.channel_model.specs.Timing.{fires, loses_features, times_held, times_end, times_features, times_channels, timed_out}
use Rattle.channel_laws.specs.channel_model.specs.Value.{Request, Queued, Answer, Ask, Held, Channels, no_channels}
use Rattle.channel_laws.specs.Pairs.{is_alone}
use Rattle.channel_laws.specs.Runs.{Occurrence, Comes, Connects, AsksFeatures, Disconnects, Sends, Gives, Fires, Tells, value_after, Run, new_link, run_on, run_of}
use Rattle.channel_laws.proofs.Lasting.{answers_of, answers-asked, asked-with, connects-lasts, disconnects-last, sends-last, times-last, ends-last}
use Rattle.host_laws.specs.Calls.{values_after, outer}
use Rattle.host_laws.specs.Seen.{IsQuiet, moved, IsCalmAt, IsCalm, queued_said, waiting_in}
use Rattle.host_laws.proofs.Links.{value_run}
use Rattle.host_laws.proofs.Moving.{pending, talk-waits, own_talk_moves, quiet-silent}
use Rattle.recovered_laws.specs.Calm.{owes}
use Rattle.recovered_laws.proofs.Owing.{owes-only_what_it_heard}

-- ---- the answers that wait

pub no-answer : (queue : List Queued) → answers_of queue ≡ [] → list_any is_answer queue ≡ false
no-answer [] none = refl
no-answer (Answer command ∷ queue) none = cc
no-answer (Ask errand ∷ queue) none = no-answer queue none

none_pass : (queue : List Queued) → answers_of queue ≡ [] → filter is_answer queue ≡ []
none_pass [] none = refl
none_pass (Answer command ∷ queue) none = cc
none_pass (Ask errand ∷ queue) none = none_pass queue none

pub silent-room : (v : Channels) → answers_of v.queue ≡ [] → has_room v ≡ true
silent-room v none = ap (λ (list : List Queued). nat_lt (length list) 16) (none_pass v.queue none)

-- ---- where nothing is given

none_more : {X : Type 0} (xs ys : List X) → xs ≡ xs ++ ys → ys ≡ []
none_more [] ys same = sym same
none_more {X} (x ∷ xs) ys same = none_more xs ys (let rest : xs ≡ xs ++ ys = cc in rest)

none_first : {X : Type 0} (xs ys : List X) → xs ++ ys ≡ [] → xs ≡ []
none_first [] ys none = refl
none_first (x ∷ xs) ys none = cc

none_last : {X : Type 0} (xs ys : List X) → xs ++ ys ≡ [] → ys ≡ []
none_last [] ys none = none
none_last (x ∷ xs) ys none = cc

none_waits : (queue : List Queued) (v : Channels) → waiting_in queue v ≡ [] → answers_of queue ≡ []
none_waits [] v none = refl
none_waits (Answer command ∷ queue) v none = cc
none_waits (Ask errand ∷ queue) v none = none_waits queue v (none_last (queued_said (Ask errand) v) (waiting_in queue v) none)

-- a calm host that has nothing to give has no answer that waits
pub calm-silent : (policy : Policy) (list : List Occurrence) → IsCalm policy no_channels list → IsQuiet (run_of policy list).value → answers_of (run_of policy list).value.queue ≡ []
calm-silent policy list calm quiet =
    let v : Channels = (run_of policy list).value in
    let none : pending v ≡ [] = none_more (moved list) (pending v) (sym (own_talk_moves policy list calm quiet) ∙ talk-waits policy list calm) in
    none_waits v.queue v (none_first (waiting_in v.queue v) _ none)

-- ---- what happens without a PDU

-- no PDU comes in, and none is given
abbrev pub PassesNone : Occurrence → Type 0
PassesNone (Comes pdu) = ⊥
PassesNone (Connects psm) = Unit {0}
PassesNone AsksFeatures = Unit {0}
PassesNone (Disconnects own) = Unit {0}
PassesNone (Sends own sdu) = Unit {0}
PassesNone (Gives pdu) = ⊥
PassesNone Fires = Unit {0}
PassesNone Tells = Unit {0}

asked_silent : (v : Channels) → answers_of (asks_features v).queue ≡ answers_of v.queue
asked_silent v = by (is_some v.features)
  where
    by : (asked : Bool) → answers_of (cond asked v (asks errands.Features (record v { features = Some (new_request v) }))).queue ≡ answers_of v.queue
    by true = refl
    by false = asked-with errands.Features v.queue

features_silent : (tries : ℕ) (features : Option Request) (v : Channels) → answers_of (times_features features tries v).queue ≡ answers_of v.queue
features_silent tries None v = refl
features_silent tries (Some request) v = by (fired tries errands.Features request v)
  where
    by : (now : Fired) → answers_of (fires now errands.Features loses_features v).queue ≡ answers_of v.queue
    by StillDue = refl
    by OnceMore = answers-asked v.queue errands.Features
    by Spent = refl

channels_silent : (tries : ℕ) (owns : List ℕ) (v : Channels) → answers_of (times_channels tries owns v).queue ≡ answers_of v.queue
channels_silent tries [] v = refl
channels_silent tries (own ∷ owns) v =
    let u : Channels = times_held (held_at own v) tries v in
    let w : Channels = times_end (held_at own u) tries u in
    channels_silent tries owns w ∙ ((ends-last tries own u).2 ∙ (times-last tries own v).2)

fired_silent : (policy : Policy) (v : Channels) → answers_of (timed_out policy v).queue ≡ answers_of v.queue
fired_silent policy v =
    let owns : List ℕ = map (λ (held : Held). held.own) v.held in
    let u : Channels = times_channels policy.tries owns v in
    features_silent policy.tries u.features u ∙ channels_silent policy.tries owns v

one_silent : (policy : Policy) (one : Occurrence) (v : Channels) → PassesNone one → answers_of (value_after policy one v).queue ≡ answers_of v.queue
one_silent policy (Comes pdu) v none = absurd none
one_silent policy (Connects psm) v none = (connects-lasts psm v).2
one_silent policy AsksFeatures v none = asked_silent v
one_silent policy (Disconnects own) v none = (disconnects-last own v).2
one_silent policy (Sends own sdu) v none = (sends-last own sdu v).2
one_silent policy (Gives pdu) v none = absurd none
one_silent policy Fires v none = fired_silent policy v
one_silent policy Tells v none = refl

pub all-silent : (policy : Policy) (list : List Occurrence) (v : Channels) → AllByRecursion PassesNone list → answers_of (values_after policy v list).queue ≡ answers_of v.queue
all-silent policy [] v none = refl
all-silent policy (one ∷ list) v none = all-silent policy list (value_after policy one v) none.1 ∙ one_silent policy one v none.0

pub run-silent : (policy : Policy) (past more : List Occurrence) → AllByRecursion PassesNone more → answers_of (run_of policy past).value.queue ≡ [] → answers_of (run_of policy (past ++ more)).value.queue ≡ []
run-silent policy past more none silent =
    ap (λ (run : Run). answers_of run.value.queue) (fold-append (run_on policy) new_link past more)
    ∙ (ap (λ (v : Channels). answers_of v.queue) (value_run policy more (run_of policy past)) ∙ (all-silent policy more (run_of policy past).value none ∙ silent))

-- ---- it is seen in what the host hears and says

pub outer-passes_none : (list : List Occurrence) → AllByRecursion PassesNone (filter_map outer list) → AllByRecursion PassesNone list
outer-passes_none [] all = tt
outer-passes_none (Comes pdu ∷ list) all = absurd all.0
outer-passes_none (Connects psm ∷ list) all = (tt, outer-passes_none list all)
outer-passes_none (AsksFeatures ∷ list) all = (tt, outer-passes_none list all)
outer-passes_none (Disconnects own ∷ list) all = (tt, outer-passes_none list all)
outer-passes_none (Sends own sdu ∷ list) all = (tt, outer-passes_none list all)
outer-passes_none (Gives pdu ∷ list) all = absurd all.0
outer-passes_none (Fires ∷ list) all = (tt, outer-passes_none list all.1)
outer-passes_none (Tells ∷ list) all = (tt, outer-passes_none list all)

-- the timer fires one time
pub record FiresOnce (list : List Occurrence) : Type 0 where
  pub front : List Occurrence
  pub behind : List Occurrence
  pub is : list ≡ front ++ Fires ∷ behind
  pub none_front : filter_map outer front ≡ []
  pub none_behind : filter_map outer behind ≡ []

later : (one : Occurrence) (list : List Occurrence) → outer one ≡ None → FiresOnce list → FiresOnce (one ∷ list)
later one list none once = record {
  front = one ∷ once.front;
  behind = once.behind;
  is = ap (λ (l : List Occurrence). one ∷ l) once.is;
  none_front = by one none;
  none_behind = once.none_behind;
}
  where
    by : (o : Occurrence) → outer o ≡ None → filter_map outer (o ∷ once.front) ≡ []
    by (Comes pdu) is = cc
    by (Connects psm) is = once.none_front
    by AsksFeatures is = once.none_front
    by (Disconnects own) is = once.none_front
    by (Sends own sdu) is = once.none_front
    by (Gives pdu) is = cc
    by Fires is = cc
    by Tells is = once.none_front

pub fires-once : (list : List Occurrence) → filter_map outer list ≡ Fires ∷ [] → FiresOnce list
fires-once [] is = cc
fires-once (Comes pdu ∷ list) is = cc
fires-once (Connects psm ∷ list) is = later (Connects psm) list refl (fires-once list is)
fires-once (AsksFeatures ∷ list) is = later AsksFeatures list refl (fires-once list is)
fires-once (Disconnects own ∷ list) is = later (Disconnects own) list refl (fires-once list is)
fires-once (Sends own sdu ∷ list) is = later (Sends own sdu) list refl (fires-once list is)
fires-once (Gives pdu ∷ list) is = cc
fires-once (Fires ∷ list) is = record { front = []; behind = list; is = refl; none_front = refl; none_behind = let rest : filter_map outer list ≡ [] = cc in rest }
fires-once (Tells ∷ list) is = later Tells list refl (fires-once list is)

-- ---- what is owed

pub none-gives : (hs : List Held) → find gives hs ≡ None → list_any gives hs ≡ false
none-gives [] none = refl
none-gives (held ∷ hs) none = by (gives held) none (none-gives hs)
  where
    by : (b : Bool) → cond b (Some held) (find gives hs) ≡ None → (find gives hs ≡ None → list_any gives hs ≡ false) → (b || list_any gives hs) ≡ false
    by true none later = let never : Some held ≡ None = none in cc
    by false none later = later none

-- where a calm host has nothing to give, no channel of it has
pub calm-gives_none : (policy : Policy) (list : List Occurrence) → IsCalm policy no_channels list → IsQuiet (run_of policy list).value → list_any gives (run_of policy list).value.held ≡ false
calm-gives_none policy list calm quiet = none-gives (run_of policy list).value.held (quiet-silent policy list calm quiet)

-- and it owes nothing
pub calm-owes_none : (policy : Policy) (list : List Occurrence) → IsCalm policy no_channels list → IsQuiet (run_of policy list).value → owes (run_of policy list).value ≡ false
calm-owes_none policy list calm quiet = owes-only_what_it_heard.silent policy list (calm-gives_none policy list calm quiet)

alone_so : (one : Occurrence) → PassesNone one → is_alone one ≡ true
alone_so (Comes pdu) none = absurd none
alone_so (Connects psm) none = refl
alone_so AsksFeatures none = refl
alone_so (Disconnects own) none = refl
alone_so (Sends own sdu) none = refl
alone_so (Gives pdu) none = absurd none
alone_so Fires none = refl
alone_so Tells none = refl

-- nor does it behind what happens without a PDU
pub run-owes_none : (policy : Policy) (past more : List Occurrence) → AllByRecursion PassesNone more → owes (run_of policy past).value ≡ false → owes (run_of policy (past ++ more)).value ≡ false
run-owes_none policy past [] all none = subst (λ (l : List Occurrence). owes (run_of policy l).value ≡ false) (sym (append-nil past)) none
run-owes_none policy past (one ∷ more) all none =
    subst (λ (l : List Occurrence). owes (run_of policy l).value ≡ false) (append_assoc past (one ∷ []) more)
    (run-owes_none policy (past ++ one ∷ []) more all.1
    (ap (λ (run : Run). owes run.value) (fold-append (run_on policy) new_link past (one ∷ [])) ∙ owes-only_what_it_heard.alone policy past one (alone_so one all.0) none))

-- what is calm up to a moment
pub calm-parts : (policy : Policy) (v : Channels) (front : List Occurrence) (one : Occurrence) (behind : List Occurrence) → IsCalm policy v (front ++ one ∷ behind) → IsCalm policy v front × IsCalmAt policy one (values_after policy v front)
calm-parts policy v [] one behind calm = (tt, calm.0)
calm-parts policy v (first ∷ front) one behind calm = let parts = calm-parts policy (value_after policy first v) front one behind calm.1 in ((calm.0, parts.0), parts.1)
