-- Nor does a firing change that: whatever happens, a host that offers no channel asks for the options of a channel that it leaves as often
-- as for its end.
use Rattle.std.proofs.Common.{◌≡◌, ℕ, ◌≤◌, List, [], ◌∷◌, ◌++◌, map, Bool, true, false, cond, ◌||◌, Option, Some, None, refl, sym, ap, subst, ◌∙◌, arith}
use Rattle.std.specs.Prelude.{is_some, min, nat_le}
use Rattle.std.specs.List.{list_any}
use Rattle.talk_laws.specs.l2cap_config.specs.declared.options.Options.{Options}
use Rattle.channel_model.specs.ertm_model.specs.declared.reason.ErtmReason.{ErtmReason}
use Rattle.channel_model.specs.ertm_model.specs.Value.{Ertm}
use Rattle.channel_model.specs.ertm_model.specs.Giving.{timed}
use Rattle.channel_model.specs.declared.errand.Errand.{Errand}
use Rattle.channel_model.specs.declared.errand.Errand.TheVariants as errands
use Rattle.channel_model.specs.declared.event.CloseReason.{CloseReason}
use Rattle.channel_model.specs.declared.event.CloseReason.TheVariants.{RetryLimit}
use Rattle.channel_model.specs.Value.{Request, Queued, Ask, Own, Unasked, Asking, Granted, Carrier, Plain, Retransmitting, Setup, Stage, Requested, Connected, Leaving, Closing, Crossed, Held, Channels}
use Rattle.channel_model.specs.Policies.{Policy}
use Rattle.channel_model.specs.Changing.{has_fcs_by, held_at, setup_of, stage_with, with_setup, to_setup, is_copy, is_due, queued}
use Rattle.channel_model.specs.Asking.{new_request, asks, StillDue, OnceMore, Spent}
use Rattle.channel_model.specs.Closing.{closes, closes_at, ends}
use Rattle.channel_model.specs.Following.{with_channel}
use Rattle.channel_model.specs.Carrying.{reason_of, settles_machine}
use Rattle.channel_model.specs.Timing.{fires, times, times_carrier, times_setup, times_stage, times_held, loses_end, times_end_at, times_end, loses_features, times_features, times_channels, timed_out}
use Rattle.channel_model.specs.Calls.{can_connect}
use Rattle.channel_model.proofs.Lookups.{own_of, Distinct, found-has, found-placed, find-gone, eqb-same, eqb-away, or_on}
use Rattle.channel_model.proofs.Going.{staged}
use Rattle.channel_model.proofs.Walking.{found-own, with-found, with-setup}
use Rattle.own_channel_laws.specs.Pace.{OffersNothing, OptionsKeepPace}
use Rattle.own_channel_laws.specs.Runs.{Occurrence, Comes, Connects, AsksFeatures, Disconnects, Sends, Gives, Fires, Tells, value_after, run_of}
use Rattle.own_channel_laws.specs.Tries.{own_request, for_options, for_end, request_at}
use Rattle.own_channel_laws.proofs.Running.{along}
use Rattle.own_channel_laws.proofs.Marking.{marks, marks-append, marks-unnamed, ones, no-ends, some-ones}
use Rattle.own_channel_laws.proofs.Pacing.{Paced, StagePaced, FoundPaced, KeepsPace, At, paced-at, still-paced, waits-paced, never-unasked, more-options, more-ends}
use Rattle.own_channel_laws.proofs.Leading.{either, close, Has, set-up, ends-paced, comes-paced, called-paced, asks-paced, left-held, sent-held, gives-paced}

-- ---- the timer: where a channel waits for its end and its options, both are asked for once more, or the end alone where the options wait
-- to be given

abbrev ReadyOwn : Own → Bool → Type 0
ReadyOwn Unasked due = Unit {0}
ReadyOwn (Asking request options) due = due ≡ true
ReadyOwn Granted due = Unit {0}

abbrev ReadyStage : Stage → Bool → Type 0
ReadyStage (Requested request) due = Unit {0}
ReadyStage (Connected peer setup) due = Unit {0}
ReadyStage (Leaving peer setup request) due = ReadyOwn setup.own due
ReadyStage (Closing peer request checked) due = Unit {0}
ReadyStage (Crossed peer request) due = Unit {0}

abbrev ReadyFound : Option Held → Bool → Type 0
ReadyFound None due = Unit {0}
ReadyFound (Some held) due = ReadyStage held.stage due

abbrev Ready : ℕ → Channels → Type 0
Ready own v = ReadyFound (held_at own v) (is_due (errands.Configuration own) v)

abbrev Half : ℕ → Channels → Type 0
Half own v = KeepsPace v × Ready own v

ready_at : (own : ℕ) (w : Channels) (found : Option Held) → held_at own w ≡ found → ReadyFound found (is_due (errands.Configuration own) w) → Ready own w
ready_at own w found is now = subst (λ (h : Option Held). ReadyFound h (is_due (errands.Configuration own) w)) (sym is) now

ready_due : (stage : Stage) (due : Bool) → due ≡ true → ReadyStage stage due
ready_due (Requested request) due is = tt
ready_due (Connected peer setup) due is = tt
ready_due (Leaving peer setup request) due is = by setup.own
  where
    by : (own : Own) → ReadyOwn own due
    by Unasked = tt
    by (Asking asked options) = is
    by Granted = tt
ready_due (Closing peer request checked) due is = tt
ready_due (Crossed peer request) due is = tt

ready_granted : (stage : Stage) (setup : Setup) (due : Bool) → setup_of stage ≡ Some setup → setup.own ≡ Granted → ReadyStage stage due
ready_granted (Requested request) setup due is own = tt
ready_granted (Connected peer s) setup due is own = tt
ready_granted (Leaving peer s request) setup due is own = let one : s ≡ setup = cc in subst (λ (o : Own). ReadyOwn o due) (sym (ap (λ (x : Setup). x.own) one ∙ own)) tt
ready_granted (Closing peer request checked) setup due is own = tt
ready_granted (Crossed peer request) setup due is own = tt

ready_closed : (v : Channels) (held : Held) (reason : CloseReason) (stage : Stage) → held.stage ≡ stage → At v held → Ready held.own (closes_at stage reason held v)
ready_closed v held reason (Requested request) is found = ready_at held.own (closes_at (Requested request) reason held v) None (find-gone own_of held.own v.held) tt
ready_closed v held reason (Connected peer setup) is found =
    let after : Held = staged held (Closing peer (new_request v) (has_fcs_by setup)) in ready_at held.own (closes_at (Connected peer setup) reason held v) (Some after) (found-placed after held v.held found) tt
ready_closed v held reason (Leaving peer setup request) is found =
    let after : Held = staged held (Closing peer request (has_fcs_by setup)) in ready_at held.own (closes_at (Leaving peer setup request) reason held v) (Some after) (found-placed after held v.held found) tt
ready_closed v held reason (Closing peer request checked) is found = ready_at held.own v (Some held) found (subst (λ s. ReadyStage s (is_due (errands.Configuration held.own) v)) (sym is) tt)
ready_closed v held reason (Crossed peer request) is found = ready_at held.own v (Some held) found (subst (λ s. ReadyStage s (is_due (errands.Configuration held.own) v)) (sym is) tt)

close_half : (v : Channels) (held : Held) (reason : CloseReason) → At v held → KeepsPace v → Half held.own (closes reason held v)
close_half v held reason found k = (close v held reason found k, ready_closed v held reason held.stage refl found)

any_asked : (own : ℕ) (queue : List Queued) → list_any (is_copy (errands.Configuration own)) (queue ++ Ask (errands.Configuration own) ∷ []) ≡ true
any_asked own [] = ap (λ b. b || false) (eqb-same own)
any_asked own (one ∷ queue) = ap (λ b. is_copy (errands.Configuration own) one || b) (any_asked own queue) ∙ or_on (is_copy (errands.Configuration own) one)

-- a request for options
timed_options : (tries : ℕ) (v : Channels) (held : Held) (request : Request) → At v held → KeepsPace v → Half held.own (times tries (errands.Configuration held.own) request (closes RetryLimit held) v)
timed_options tries v held request found k = by (is_due errand v) refl (nat_le tries request.given)
  where
    errand : Errand
    errand = errands.Configuration held.own

    w : Channels
    w = queued (Ask errand) v

    whole : marks held.own w.queue ≡ marks held.own v.queue ++ true ∷ []
    whole = marks-append held.own v.queue (Ask errand) ∙ ap (λ b. marks held.own v.queue ++ cond b (true ∷ []) []) (eqb-same held.own)

    by : (due : Bool) → is_due errand v ≡ due → (most : Bool) → Half held.own (fires (cond due StillDue (cond most Spent OnceMore)) errand (closes RetryLimit held) v)
    by true d most = (k, ready_at held.own v (Some held) found (ready_due held.stage (is_due errand v) d))
    by false d true = close_half v held RetryLimit found k
    by false d false = (
      waits-paced v w held found refl (λ n apart. marks-unnamed n v.queue errand (eqb-away held.own n apart)) (subst (StagePaced held.stage) (sym whole) (more-options held.stage (marks held.own v.queue) (paced-at v held found k))) k,
      ready_at held.own w (Some held) found (ready_due held.stage (is_due errand w) (any_asked held.own v.queue)),
    )

timed_machine : (v : Channels) (closed : Option ErtmReason) (machine : Ertm) (held : Held) (setup : Setup) → setup.own ≡ Granted → At v held → Has held setup → KeepsPace v → Half held.own (settles_machine closed machine held setup v)
timed_machine v None machine held setup own found is k =
    let after : Setup = record setup { carrier = Some (Retransmitting machine) } in
    let w : Channels = to_setup held after v in (
      set-up v w held setup after found is refl refl refl k,
      ready_at held.own w (Some (with_setup held after)) (with-found v held after found) (ready_granted (stage_with after held.stage) after (is_due (errands.Configuration held.own) w) (with-setup held.stage setup after is) own),
    )
timed_machine v (Some reason) machine held setup own found is k = close_half v held (reason_of reason) found k

timed_carrier : (v : Channels) (carrier : Option Carrier) (held : Held) (setup : Setup) → setup.own ≡ Granted → At v held → Has held setup → KeepsPace v → Half held.own (times_carrier carrier held setup v)
timed_carrier v None held setup own found is k = (k, ready_at held.own v (Some held) found (ready_granted held.stage setup (is_due (errands.Configuration held.own) v) is own))
timed_carrier v (Some (Plain agreed waits)) held setup own found is k = (k, ready_at held.own v (Some held) found (ready_granted held.stage setup (is_due (errands.Configuration held.own) v) is own))
timed_carrier v (Some (Retransmitting machine)) held setup own found is k = timed_machine v (timed machine).closed (timed machine) held setup own found is k

timed_setup : (tries : ℕ) (v : Channels) (own : Own) (held : Held) (setup : Setup) → setup.own ≡ own → At v held → Has held setup → KeepsPace v → Half held.own (times_setup own tries held setup v)
timed_setup tries v Unasked held setup own found is k = absurd (never-unasked held.stage setup (marks held.own v.queue) is own (paced-at v held found k))
timed_setup tries v (Asking request options) held setup own found is k = timed_options tries v held request found k
timed_setup tries v Granted held setup own found is k = timed_carrier v setup.carrier held setup own found is k

-- a request for the channel
timed_call : (tries : ℕ) (v : Channels) (held : Held) (request : Request) → held.stage ≡ Requested request → At v held → KeepsPace v → Half held.own (times tries (errands.Connection held.own) request (closes RetryLimit held) v)
timed_call tries v held request is found k = by (is_due errand v) (nat_le tries request.given)
  where
    errand : Errand
    errand = errands.Connection held.own

    w : Channels
    w = queued (Ask errand) v

    ready : (due : Bool) → ReadyStage held.stage due
    ready due = subst (λ s. ReadyStage s due) (sym is) tt

    by : (due most : Bool) → Half held.own (fires (cond due StillDue (cond most Spent OnceMore)) errand (closes RetryLimit held) v)
    by true most = (k, ready_at held.own v (Some held) found (ready (is_due (errands.Configuration held.own) v)))
    by false true = close_half v held RetryLimit found k
    by false false = (still-paced v w refl (λ n. marks-unnamed n v.queue errand refl) k, ready_at held.own w (Some held) found (ready (is_due (errands.Configuration held.own) w)))

timed_stage : (tries : ℕ) (v : Channels) (stage : Stage) (held : Held) → held.stage ≡ stage → At v held → KeepsPace v → Half held.own (times_stage stage tries held v)
timed_stage tries v (Requested request) held is found k = timed_call tries v held request is found k
timed_stage tries v (Connected peer setup) held is found k = timed_setup tries v setup.own held setup refl found (ap setup_of is) k
timed_stage tries v (Leaving peer setup request) held is found k = timed_setup tries v setup.own held setup refl found (ap setup_of is) k
timed_stage tries v (Closing peer request checked) held is found k = (k, ready_closed v held RetryLimit (Closing peer request checked) is found)
timed_stage tries v (Crossed peer request) held is found k = (k, ready_closed v held RetryLimit (Crossed peer request) is found)

timed_held : (tries own : ℕ) (v : Channels) (found : Option Held) → held_at own v ≡ found → KeepsPace v → Half own (times_held found tries v)
timed_held tries own v None is k = (k, ready_at own v None is tt)
timed_held tries own v (Some held) is k = subst (λ n. Half n (times_held (Some held) tries v)) (found-has own_of own v.held held is) (timed_stage tries v held.stage held refl (found-own own v held is) k)

-- the request for the end
end_more : (v : Channels) (held : Held) → At v held → (StagePaced held.stage (marks held.own v.queue) → StagePaced held.stage (marks held.own v.queue ++ false ∷ [])) → KeepsPace v → KeepsPace (queued (Ask (errands.Disconnection held.own)) v)
end_more v held found more k =
    let errand : Errand = errands.Disconnection held.own in
    let w : Channels = queued (Ask errand) v in
    let whole : marks held.own w.queue ≡ marks held.own v.queue ++ false ∷ [] = marks-append held.own v.queue (Ask errand) ∙ ap (λ b. marks held.own v.queue ++ cond b (false ∷ []) []) (eqb-same held.own) in
    waits-paced v w held found refl (λ n apart. marks-unnamed n v.queue errand (eqb-away held.own n apart)) (subst (StagePaced held.stage) (sym whole) (more (paced-at v held found k))) k

abbrev ended_by : Bool → Bool → (spent : Channels → Channels) → Held → Channels → Channels
ended_by due most spent held v = fires (cond due StillDue (cond most Spent OnceMore)) (errands.Disconnection held.own) spent v

timed_leaving : (tries : ℕ) (v : Channels) (held : Held) (peer : ℕ) (setup : Setup) (request : Request) → held.stage ≡ Leaving peer setup request → At v held → Half held.own v → KeepsPace (times tries (errands.Disconnection held.own) request (ends RetryLimit held) v)
timed_leaving tries v held peer setup request is found (k, ready) = by (is_due (errands.Disconnection held.own) v) refl (nat_le tries request.given)
  where
    due_by : ReadyOwn setup.own (is_due (errands.Configuration held.own) v)
    due_by = subst (λ s. ReadyStage s (is_due (errands.Configuration held.own) v)) is (subst (λ (h : Option Held). ReadyFound h (is_due (errands.Configuration held.own) v)) found ready)

    due : (asked : Request) (options : Options) → setup.own ≡ Asking asked options → 1 ≤ ones (marks held.own v.queue)
    due asked options own = some-ones held.own v.queue (subst (λ (o : Own). ReadyOwn o (is_due (errands.Configuration held.own) v)) own due_by)

    more : is_due (errands.Disconnection held.own) v ≡ false → StagePaced held.stage (marks held.own v.queue) → StagePaced held.stage (marks held.own v.queue ++ false ∷ [])
    more none now =
        subst (λ s. StagePaced s (marks held.own v.queue ++ false ∷ [])) (sym is)
        (more-ends setup.own request (marks held.own v.queue) (no-ends held.own v.queue none) due (subst (λ s. StagePaced s (marks held.own v.queue)) is now))

    by : (b : Bool) → is_due (errands.Disconnection held.own) v ≡ b → (most : Bool) → KeepsPace (ended_by b most (ends RetryLimit held) held v)
    by true d most = k
    by false d true = ends-paced v held RetryLimit held.stage k
    by false d false = end_more v held found (more d) k

-- of a channel that is closed
timed_closed : (tries : ℕ) (v : Channels) (held : Held) (request : Request) → ((ms : List Bool) → StagePaced held.stage ms) → At v held → KeepsPace v → KeepsPace (times tries (errands.Disconnection held.own) request (loses_end held) v)
timed_closed tries v held request free found k = by (is_due (errands.Disconnection held.own) v) (nat_le tries request.given)
  where
    by : (due most : Bool) → KeepsPace (ended_by due most (loses_end held) held v)
    by true most = k
    by false true = ends-paced v held RetryLimit held.stage k
    by false false = end_more v held found (λ now. free (marks held.own v.queue ++ false ∷ [])) k

timed_end : (tries : ℕ) (v : Channels) (stage : Stage) (held : Held) → held.stage ≡ stage → At v held → Half held.own v → KeepsPace (times_end_at stage tries held v)
timed_end tries v (Requested request) held is found half = half.0
timed_end tries v (Connected peer setup) held is found half = half.0
timed_end tries v (Leaving peer setup request) held is found half = timed_leaving tries v held peer setup request is found half
timed_end tries v (Closing peer request checked) held is found half = timed_closed tries v held request (λ ms. subst (λ s. StagePaced s ms) (sym is) tt) found half.0
timed_end tries v (Crossed peer request) held is found half = timed_closed tries v held request (λ ms. subst (λ s. StagePaced s ms) (sym is) tt) found half.0

timed_ended : (tries own : ℕ) (v : Channels) (found : Option Held) → held_at own v ≡ found → Half own v → KeepsPace (times_end found tries v)
timed_ended tries own v None is half = half.0
timed_ended tries own v (Some held) is half = timed_end tries v held.stage held refl (found-own own v held is) (subst (λ n. Half n v) (sym (found-has own_of own v.held held is)) half)

channels_timed : (tries : ℕ) (owns : List ℕ) (v : Channels) → KeepsPace v → KeepsPace (times_channels tries owns v)
channels_timed tries [] v k = k
channels_timed tries (own ∷ owns) v k =
    let u : Channels = times_held (held_at own v) tries v in
    channels_timed tries owns (times_end (held_at own u) tries u) (timed_ended tries own u (held_at own u) refl (timed_held tries own v (held_at own v) refl k))

features_timed : (tries : ℕ) (v : Channels) (features : Option Request) → KeepsPace v → KeepsPace (times_features features tries v)
features_timed tries v None k = k
features_timed tries v (Some request) k = by (is_due errands.Features v) (nat_le tries request.given)
  where
    by : (due most : Bool) → KeepsPace (fires (cond due StillDue (cond most Spent OnceMore)) errands.Features loses_features v)
    by true most = k
    by false true = k
    by false false = still-paced v (queued (Ask errands.Features) v) refl (λ n. marks-unnamed n v.queue errands.Features refl) k

timed_paced : (policy : Policy) (v : Channels) → KeepsPace v → KeepsPace (timed_out policy v)
timed_paced policy v k =
    let u : Channels = times_channels policy.tries (map (λ held. held.own) v.held) v in features_timed policy.tries u u.features (channels_timed policy.tries (map (λ held. held.own) v.held) v k)

-- ---- whatever happens

one_paced : (policy : Policy) → OffersNothing policy → (more : Occurrence) (v : Channels) → Distinct own_of v.held → KeepsPace v → KeepsPace (value_after policy more v)
one_paced policy none (Comes pdu) v lone k = comes-paced policy none pdu v k
one_paced policy none (Connects psm) v lone k = either (can_connect v) (asks (errands.Connection v.next) (with_channel psm (Requested (new_request v)) v)) v (called-paced v psm k) k
one_paced policy none AsksFeatures v lone k = either (is_some v.features) v (asks errands.Features (record v { features = Some (new_request v) })) k (asks-paced v k)
one_paced policy none (Disconnects own) v lone k = left-held v own (held_at own v) refl k
one_paced policy none (Sends own sdu) v lone k = sent-held v own (held_at own v) sdu refl k
one_paced policy none (Gives pdu) v lone k = gives-paced v v.queue refl lone k
one_paced policy none Fires v lone k = timed_paced policy v k
one_paced policy none Tells v lone k = k

pub keeps-pace : (policy : Policy) → OffersNothing policy → (list : List Occurrence) → KeepsPace (run_of policy list).value
keeps-pace policy none list = (along policy (λ run. KeepsPace run.value) (λ own. tt) (λ run more sound k. one_paced policy none more run.value sound.core.lone k) list).1

-- where nothing waits
at_stage : (stage : Stage) (options end : Request) → StagePaced stage [] → for_options stage ≡ Some options → for_end stage ≡ Some end → min end.given 255 ≤ options.given
at_stage (Requested request) options end now asked ended = cc
at_stage (Connected peer setup) options end now asked ended = cc
at_stage (Leaving peer setup request) options end now asked ended = by setup.own now asked
  where
    given : request.given ≡ end.given
    given = let same : request ≡ end = cc in ap (λ (x : Request). x.given) same

    by : (own : Own) → Paced (Some request) own [] → own_request own ≡ Some options → min end.given 255 ≤ options.given
    by Unasked never is = absurd never
    by (Asking one wanted) now is =
        let same : one ≡ options = cc in
        let less : one.given ≡ options.given = ap (λ (x : Request). x.given) same in
        omega (arith, now, less, given)
    by Granted now is = cc
at_stage (Closing peer request checked) options end now asked ended = cc
at_stage (Crossed peer request) options end now asked ended = cc

pub options-keep_pace : OptionsKeepPace
options-keep_pace policy list none empty own options end asked ended = by (held_at own v) refl asked ended
  where
    v : Channels
    v = (run_of policy list).value

    now : FoundPaced (held_at own v) []
    now = subst (λ (q : List Queued). FoundPaced (held_at own v) (marks own q)) empty (keeps-pace policy none list own)

    by : (found : Option Held) → held_at own v ≡ found → request_at for_options found ≡ Some options → request_at for_end found ≡ Some end → min end.given 255 ≤ options.given
    by None is asked ended = cc
    by (Some held) is asked ended = at_stage held.stage options end (subst (λ (h : Option Held). FoundPaced h []) is now) asked ended
