-- What a host waits for of the options of a channel that it has not begun to end is as it was, but where it asks anew or is
-- answered.
use Rattle.std.proofs.Common.{◌≡◌, ℕ, List, [], ◌∷◌, map, Bool, true, false, cond, eqb, not, Option, Some, None, refl, sym, ap, subst, ◌∙◌, ◌⊎◌, inl, inr}
use Rattle.std.specs.Prelude.{find, filter, option_map, is_some}
use Rattle.std.specs.Option.{option_or}
use Rattle.std.proofs.lemmas.Bool.{eqb-true}
use Rattle.channel_model.specs.ertm_model.specs.declared.reason.ErtmReason.{ErtmReason}
use Rattle.channel_model.specs.ertm_model.specs.Value.{Ertm}
use Rattle.channel_model.specs.ertm_model.specs.Giving.{timed}
use Rattle.channel_model.specs.declared.errand.Errand.{Errand}
use Rattle.channel_model.specs.declared.errand.Errand.TheVariants as errands
use Rattle.channel_model.specs.declared.event.CloseReason.{CloseReason}
use Rattle.channel_model.specs.declared.event.CloseReason.TheVariants.{OwnClosed, RetryLimit}
use Rattle.channel_model.specs.Value.{Queued, Answer, Ask, Own, Unasked, Asking, Granted, Carrier, Plain, Retransmitting, Setup, Stage, Requested, Connected, Leaving, Closing, Crossed, Held, Channels}
use Rattle.channel_model.specs.Changing.{has_own, has_fcs_by, held_at, in_place_of, is_peer, is_open, setup_of, stage_with, to_setup}
use Rattle.channel_model.specs.Asking.{new_request, asks, Fired, StillDue, OnceMore, Spent, fired}
use Rattle.channel_model.specs.Closing.{closes, closes_at, peer_closes_at, ends_at, ends}
use Rattle.channel_model.specs.Following.{with_channel, follows_disconnection}
use Rattle.channel_model.specs.Giving.{own_given, connection_given, configuration_given, disconnection_given, stage_given, counted, gives, carrier_given, carrier_spent, held_given, queue_given, after_given}
use Rattle.channel_model.specs.Responses.{hears_end}
use Rattle.channel_model.specs.Carrying.{reason_of, settles_machine}
use Rattle.channel_model.specs.Timing.{fires, times_carrier, times_setup, times_stage, times_held, loses_end, times_end_at, times_end}
use Rattle.channel_model.specs.Calls.{can_connect, connected, asks_features, disconnected_at, disconnected_held, disconnected, sends_setup, sends_on, sends_held, sends, carrier_with}
use Rattle.channel_model.proofs.Lookups.{own_of, Distinct, found-distinct, found-placed, find-placed, find-others, find-gone, find-append}
use Rattle.channel_model.proofs.Going.{staged, new_held}
use Rattle.channel_model.proofs.Walking.{found-own}
use Rattle.own_channel_laws.specs.Tries.{own_request}
use Rattle.own_channel_laws.proofs.Lasting.{asked_by}

-- ---- what is waited for

-- the identifier of the own request for options that waits, where the channel is there
abbrev pub asked_at : Stage → Option (Option ℕ)
asked_at (Requested request) = None
asked_at (Connected peer setup) = Some (asked_by (own_request setup.own))
asked_at (Leaving peer setup request) = Some (asked_by (own_request setup.own))
asked_at (Closing peer request checked) = None
asked_at (Crossed peer request) = None

abbrev pub asked_on : Option Held → Option (Option ℕ)
asked_on None = None
asked_on (Some held) = asked_at held.stage

-- the channel is not there any more, or it waits for what it waited for
abbrev pub Stays : (now was : Option (Option ℕ)) → Type 0
Stays now was = (now ≡ None) ⊎ (now ≡ was)

abbrev pub Rests : Channels → Channels → Type 0
Rests v w = (own : ℕ) → Stays (asked_on (held_at own w)) (asked_on (held_at own v))

pub both-rest : (v u w : Channels) → Rests v u → Rests u w → Rests v w
both-rest v u w first second own = by (second own) (first own)
  where
    by : Stays (asked_on (held_at own w)) (asked_on (held_at own u)) → Stays (asked_on (held_at own u)) (asked_on (held_at own v)) → Stays (asked_on (held_at own w)) (asked_on (held_at own v))
    by (inl none) before = inl none
    by (inr same) (inl none) = inl (same ∙ none)
    by (inr same) (inr was) = inr (same ∙ was)

pub same-rests : (v w : Channels) → w.held ≡ v.held → Rests v w
same-rests v w is own = inr (ap (λ hs. asked_on (find (has_own own) hs)) is)

either : (b : Bool) (v x y : Channels) → Rests v x → Rests v y → Rests v (cond b x y)
either true v x y one other = one
either false v x y one other = other

-- ---- one channel

pub placed-rests : (v w : Channels) (held : Held) (stage : Stage) → find (has_own held.own) v.held ≡ Some held → w.held ≡ map (in_place_of (staged held stage)) v.held → Stays (asked_at stage) (asked_at held.stage) → Rests v w
placed-rests v w held stage found held_is stays own = by (eqb held.own own) refl
  where
    by : (same : Bool) → eqb held.own own ≡ same → Stays (asked_on (held_at own w)) (asked_on (held_at own v))
    by true now =
        let w_is : find (has_own held.own) w.held ≡ Some (staged held stage) = ap (find (has_own held.own)) held_is ∙ found-placed (staged held stage) held v.held found in
        subst (λ n. Stays (asked_on (held_at n w)) (asked_on (held_at n v))) (eqb-true held.own own now)
        (subst (λ h. Stays (asked_on h) (asked_on (held_at held.own v))) (sym w_is) (subst (λ h. Stays (asked_at stage) (asked_on h)) (sym found) stays))
    by false now = inr (ap asked_on (ap (find (has_own own)) held_is ∙ find-placed (staged held stage) v.held own now))

gone_rests : (v w : Channels) (held : Held) → w.held ≡ filter (λ other. not (eqb other.own held.own)) v.held → Rests v w
gone_rests v w held held_is own = by (eqb held.own own) refl
  where
    by : (same : Bool) → eqb held.own own ≡ same → Stays (asked_on (held_at own w)) (asked_on (held_at own v))
    by true now =
        subst (λ n. Stays (asked_on (held_at n w)) (asked_on (held_at n v))) (eqb-true held.own own now)
        (inl (ap asked_on (ap (find (has_own held.own)) held_is ∙ find-gone own_of held.own v.held)))
    by false now = inr (ap asked_on (ap (find (has_own own)) held_is ∙ find-others own_of held.own own v.held now))

-- ---- a channel is closed

closes_rests : (v : Channels) (held : Held) (reason : CloseReason) (stage : Stage) → find (has_own held.own) v.held ≡ Some held → Rests v (closes_at stage reason held v)
closes_rests v held reason (Requested request) found = gone_rests v (closes_at (Requested request) reason held v) held refl
closes_rests v held reason (Connected peer setup) found = placed-rests v (closes_at (Connected peer setup) reason held v) held (Closing peer _ (has_fcs_by setup)) found refl (inl refl)
closes_rests v held reason (Leaving peer setup request) found = placed-rests v (closes_at (Leaving peer setup request) reason held v) held (Closing peer request (has_fcs_by setup)) found refl (inl refl)
closes_rests v held reason (Closing peer request checked) found = same-rests v v refl
closes_rests v held reason (Crossed peer request) found = same-rests v v refl

peer_rests : (v : Channels) (held : Held) (stage : Stage) → find (has_own held.own) v.held ≡ Some held → Rests v (peer_closes_at stage held v)
peer_rests v held (Requested request) found = same-rests v v refl
peer_rests v held (Connected peer setup) found = gone_rests v (peer_closes_at (Connected peer setup) held v) held refl
peer_rests v held (Leaving peer setup request) found = placed-rests v (peer_closes_at (Leaving peer setup request) held v) held (Crossed peer request) found refl (inl refl)
peer_rests v held (Closing peer request checked) found = placed-rests v (peer_closes_at (Closing peer request checked) held v) held (Crossed peer request) found refl (inl refl)
peer_rests v held (Crossed peer request) found = same-rests v v refl

ends_rest : (v : Channels) (held : Held) (reason : CloseReason) (stage : Stage) → Rests v (ends_at stage reason held v)
ends_rest v held reason (Requested request) = same-rests v v refl
ends_rest v held reason (Connected peer setup) = same-rests v v refl
ends_rest v held reason (Leaving peer setup request) = gone_rests v (ends_at (Leaving peer setup request) reason held v) held refl
ends_rest v held reason (Closing peer request checked) = gone_rests v (ends_at (Closing peer request checked) reason held v) held refl
ends_rest v held reason (Crossed peer request) = gone_rests v (ends_at (Crossed peer request) reason held v) held refl

pub closes-rests : (v : Channels) (held : Held) (reason : CloseReason) → find (has_own held.own) v.held ≡ Some held → Rests v (closes reason held v)
closes-rests v held reason found = closes_rests v held reason held.stage found

pub disconnection-rests : (v : Channels) (own peer : ℕ) (held : Option Held) → held_at own v ≡ held → Rests v (follows_disconnection held peer v)
disconnection-rests v own peer None at = same-rests v v refl
disconnection-rests v own peer (Some held) at = either (is_peer peer held.stage) v (peer_closes_at held.stage held v) v (peer_rests v held held.stage (found-own own v held at)) (same-rests v v refl)

pub end-rests : (v : Channels) (held : Option Held) (peer : ℕ) → Rests v (hears_end held peer v)
end-rests v None peer = same-rests v v refl
end-rests v (Some held) peer = either (is_peer peer held.stage) v (ends OwnClosed held v) v (ends_rest v held OwnClosed held.stage) (same-rests v v refl)

left_rests : (v : Channels) (held : Held) (stage : Stage) → held.stage ≡ stage → find (has_own held.own) v.held ≡ Some held → Rests v (disconnected_at stage held v)
left_rests v held (Requested request) is found = closes_rests v held OwnClosed held.stage found
left_rests v held (Connected peer setup) is found = placed-rests v (disconnected_at (Connected peer setup) held v) held (Leaving peer setup _) found refl (inr (sym (ap asked_at is)))
left_rests v held (Leaving peer setup request) is found = same-rests v v refl
left_rests v held (Closing peer request checked) is found = same-rests v v refl
left_rests v held (Crossed peer request) is found = same-rests v v refl

left_held : (v : Channels) (own : ℕ) (held : Option Held) → held_at own v ≡ held → Rests v (disconnected_held held v)
left_held v own None at = same-rests v v refl
left_held v own (Some held) at = left_rests v held held.stage refl (found-own own v held at)

pub disconnects-rests : (own : ℕ) (v : Channels) → Rests v (disconnected own v)
disconnects-rests own v = left_held v own (held_at own v) refl

-- ---- SDUs and machines

-- the own request is as it was
setup_stays : (after setup : Setup) (stage : Stage) → setup_of stage ≡ Some setup → after.own ≡ setup.own → Stays (asked_at (stage_with after stage)) (asked_at stage)
setup_stays after setup (Requested request) is same = inl refl
setup_stays after setup (Connected peer before) is same =
    let whole : before ≡ setup = cc in
    inr (ap (λ o. Some (asked_by (own_request o))) (same ∙ sym (ap (λ (s : Setup). s.own) whole)))
setup_stays after setup (Leaving peer before request) is same =
    let whole : before ≡ setup = cc in
    inr (ap (λ o. Some (asked_by (own_request o))) (same ∙ sym (ap (λ (s : Setup). s.own) whole)))
setup_stays after setup (Closing peer request checked) is same = inl refl
setup_stays after setup (Crossed peer request) is same = inl refl

pub setup-rests : (v w : Channels) (held : Held) (setup after : Setup) → find (has_own held.own) v.held ≡ Some held → setup_of held.stage ≡ Some setup → after.own ≡ setup.own → w.held ≡ (to_setup held after v).held → Rests v w
setup-rests v w held setup after found is same held_is = placed-rests v w held (stage_with after held.stage) found held_is (setup_stays after setup held.stage is same)

sent_on : (v : Channels) (setup : Option Setup) (sdu : List ℕ) (held : Held) → find (has_own held.own) v.held ≡ Some held → setup_of held.stage ≡ setup → Rests v (sends_on setup sdu held v)
sent_on v None sdu held found is = same-rests v v refl
sent_on v (Some setup) sdu held found is = setup-rests v (sends_on (Some setup) sdu held v) held setup (sends_setup setup sdu) found is (by (is_open setup)) refl
  where
    by : (b : Bool) → (let sent : Setup = record setup { carrier = option_map (λ carrier. carrier_with carrier sdu) setup.carrier } in let s : Setup = cond b sent setup in s.own ≡ setup.own)
    by true = refl
    by false = refl

sent_held : (v : Channels) (own : ℕ) (held : Option Held) (sdu : List ℕ) → held_at own v ≡ held → Rests v (sends_held held sdu v)
sent_held v own None sdu at = same-rests v v refl
sent_held v own (Some held) sdu at = sent_on v (setup_of held.stage) sdu held (found-own own v held at) refl

pub sends-rest : (own : ℕ) (sdu : List ℕ) (v : Channels) → Rests v (sends own sdu v)
sends-rest own sdu v = sent_held v own (held_at own v) sdu refl

pub settles-rests : (v : Channels) (closed : Option ErtmReason) (machine : Ertm) (held : Held) (setup : Setup) → find (has_own held.own) v.held ≡ Some held → setup_of held.stage ≡ Some setup → Rests v (settles_machine closed machine held setup v)
settles-rests v None machine held setup found is = setup-rests v (settles_machine None machine held setup v) held setup (record setup { carrier = Some (Retransmitting machine) }) found is refl refl
settles-rests v (Some reason) machine held setup found is = closes_rests v held (reason_of reason) held.stage found

-- ---- the timer

fires_rests : (v : Channels) (now : Fired) (errand : Errand) (spent : Channels → Channels) → Rests v (spent v) → Rests v (fires now errand spent v)
fires_rests v StillDue errand spent goes = same-rests v v refl
fires_rests v OnceMore errand spent goes = same-rests v (fires OnceMore errand spent v) refl
fires_rests v Spent errand spent goes = goes

timed_carrier : (v : Channels) (carrier : Option Carrier) (held : Held) (setup : Setup) → find (has_own held.own) v.held ≡ Some held → setup_of held.stage ≡ Some setup → Rests v (times_carrier carrier held setup v)
timed_carrier v None held setup found is = same-rests v v refl
timed_carrier v (Some (Plain agreed waiting)) held setup found is = same-rests v v refl
timed_carrier v (Some (Retransmitting machine)) held setup found is = let after : Ertm = timed machine in settles-rests v after.closed after held setup found is

timed_setup : (v : Channels) (own : Own) (tries : ℕ) (held : Held) (setup : Setup) → find (has_own held.own) v.held ≡ Some held → setup_of held.stage ≡ Some setup → Rests v (times_setup own tries held setup v)
timed_setup v Unasked tries held setup found is = timed_carrier v setup.carrier held setup found is
timed_setup v (Asking request options) tries held setup found is =
    fires_rests v (fired tries (errands.Configuration held.own) request v) (errands.Configuration held.own) (closes RetryLimit held) (closes_rests v held RetryLimit held.stage found)
timed_setup v Granted tries held setup found is = timed_carrier v setup.carrier held setup found is

timed_stage : (v : Channels) (stage : Stage) (tries : ℕ) (held : Held) → held.stage ≡ stage → find (has_own held.own) v.held ≡ Some held → Rests v (times_stage stage tries held v)
timed_stage v (Requested request) tries held is found =
    fires_rests v (fired tries (errands.Connection held.own) request v) (errands.Connection held.own) (closes RetryLimit held) (closes_rests v held RetryLimit held.stage found)
timed_stage v (Connected peer setup) tries held is found = timed_setup v setup.own tries held setup found (ap setup_of is)
timed_stage v (Leaving peer setup request) tries held is found = timed_setup v setup.own tries held setup found (ap setup_of is)
timed_stage v (Closing peer request checked) tries held is found = same-rests v v refl
timed_stage v (Crossed peer request) tries held is found = same-rests v v refl

timed_held : (v : Channels) (own : ℕ) (held : Option Held) (tries : ℕ) → held_at own v ≡ held → Rests v (times_held held tries v)
timed_held v own None tries at = same-rests v v refl
timed_held v own (Some held) tries at = timed_stage v held.stage tries held refl (found-own own v held at)

lost_rests : (v : Channels) (held : Held) → Rests v (loses_end held v)
lost_rests v held = let u : Channels = ends RetryLimit held v in both-rest v u (loses_end held v) (ends_rest v held RetryLimit held.stage) (same-rests u (loses_end held v) refl)

timed_end : (v : Channels) (stage : Stage) (tries : ℕ) (held : Held) → Rests v (times_end_at stage tries held v)
timed_end v (Requested request) tries held = same-rests v v refl
timed_end v (Connected peer setup) tries held = same-rests v v refl
timed_end v (Leaving peer setup request) tries held =
    fires_rests v (fired tries (errands.Disconnection held.own) request v) (errands.Disconnection held.own) (ends RetryLimit held) (ends_rest v held RetryLimit held.stage)
timed_end v (Closing peer request checked) tries held =
    fires_rests v (fired tries (errands.Disconnection held.own) request v) (errands.Disconnection held.own) (loses_end held) (lost_rests v held)
timed_end v (Crossed peer request) tries held =
    fires_rests v (fired tries (errands.Disconnection held.own) request v) (errands.Disconnection held.own) (loses_end held) (lost_rests v held)

ended_held : (v : Channels) (held : Option Held) (tries : ℕ) → Rests v (times_end held tries v)
ended_held v None tries = same-rests v v refl
ended_held v (Some held) tries = timed_end v held.stage tries held

pub times-rest : (tries own : ℕ) (v : Channels) → Rests v (times_held (held_at own v) tries v)
times-rest tries own v = timed_held v own (held_at own v) tries refl

pub ends-rest : (tries own : ℕ) (v : Channels) → Rests v (times_end (held_at own v) tries v)
ends-rest tries own v = ended_held v (held_at own v) tries

-- ---- the next PDU, and new channels

-- the identifier of a request that is given once more is the same
own_stays : (own : Own) → asked_by (own_request (own_given own)) ≡ asked_by (own_request own)
own_stays Unasked = refl
own_stays (Asking request options) = refl
own_stays Granted = refl

connection_stays : (stage : Stage) → asked_at (connection_given stage) ≡ asked_at stage
connection_stays (Requested request) = refl
connection_stays (Connected peer setup) = refl
connection_stays (Leaving peer setup request) = refl
connection_stays (Closing peer request checked) = refl
connection_stays (Crossed peer request) = refl

configuration_stays : (stage : Stage) → asked_at (configuration_given stage) ≡ asked_at stage
configuration_stays (Requested request) = refl
configuration_stays (Connected peer setup) = ap Some (own_stays setup.own)
configuration_stays (Leaving peer setup request) = ap Some (own_stays setup.own)
configuration_stays (Closing peer request checked) = refl
configuration_stays (Crossed peer request) = refl

disconnection_stays : (stage : Stage) → asked_at (disconnection_given stage) ≡ asked_at stage
disconnection_stays (Requested request) = refl
disconnection_stays (Connected peer setup) = refl
disconnection_stays (Leaving peer setup request) = refl
disconnection_stays (Closing peer request checked) = refl
disconnection_stays (Crossed peer request) = refl

stage_rests : (v : Channels) (f : Stage → Stage) (own : ℕ) (held : Option Held) → ((stage : Stage) → asked_at (f stage) ≡ asked_at stage) → held_at own v ≡ held → Rests v (stage_given f held v)
stage_rests v f own None stays at = same-rests v v refl
stage_rests v f own (Some held) stays at = placed-rests v (stage_given f (Some held) v) held (f held.stage) (found-own own v held at) refl (inr (stays held.stage))

counted_rests : (v : Channels) (errand : Errand) → Rests v (counted errand v)
counted_rests v (errands.Connection own) = stage_rests v connection_given own (held_at own v) connection_stays refl
counted_rests v (errands.Configuration own) = stage_rests v configuration_given own (held_at own v) configuration_stays refl
counted_rests v (errands.Disconnection own) = stage_rests v disconnection_given own (held_at own v) disconnection_stays refl
counted_rests v errands.Features = same-rests v (counted errands.Features v) refl

spent_rests : (v : Channels) (held : Held) (setup : Option Setup) → find (has_own held.own) v.held ≡ Some held → setup_of held.stage ≡ setup → Rests v (carrier_spent setup held v)
spent_rests v held None found is = same-rests v v refl
spent_rests v held (Some setup) found is = setup-rests v (carrier_spent (Some setup) held v) held setup (record setup { carrier = option_map carrier_given setup.carrier }) found is refl refl

given_rests : (v : Channels) (held : Option Held) → Distinct own_of v.held → find gives v.held ≡ held → Rests v (held_given held v)
given_rests v None lone is = same-rests v v refl
given_rests v (Some held) lone is = spent_rests v held (setup_of held.stage) (found-distinct own_of gives v.held held lone is) refl

queue_rests : (v : Channels) (queue : List Queued) → Distinct own_of v.held → Rests v (queue_given queue v)
queue_rests v [] lone = given_rests v (find gives v.held) lone refl
queue_rests v (Answer command ∷ behind) lone = same-rests v (queue_given (Answer command ∷ behind) v) refl
queue_rests v (Ask errand ∷ behind) lone = let u : Channels = record v { queue = behind } in both-rest v u (counted errand u) (same-rests v u refl) (counted_rests u errand)

pub gives-rest : (v : Channels) → Distinct own_of v.held → Rests v (after_given v)
gives-rest v lone = queue_rests v v.queue lone

pub connects-rest : (psm : ℕ) (v : Channels) → Rests v (connected psm v)
connects-rest psm v = either (can_connect v) v (asks (errands.Connection v.next) (with_channel psm (Requested (new_request v)) v)) v (λ own. subst (λ h. Stays (asked_on h) (asked_on (held_at own v))) (sym (find-append own_of own v.held new)) (by own (find (has_own own) v.held) (eqb v.next own))) (same-rests v v refl)
  where
    new : Held
    new = new_held psm v.next (Requested (new_request v))

    by : (own : ℕ) (found : Option Held) (same : Bool) → Stays (asked_on (option_or found (cond same (Some new) None))) (asked_on found)
    by own None true = inl refl
    by own None false = inl refl
    by own (Some held) same = inr refl

pub asks-rest : (v : Channels) → Rests v (asks_features v)
asks-rest v = let w : Channels = asks errands.Features (record v { features = Some (new_request v) }) in either (is_some v.features) v v w (same-rests v v refl) (same-rests v w refl)
