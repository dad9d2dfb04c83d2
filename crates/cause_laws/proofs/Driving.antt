-- What a host does by itself, and what its timer and the end of its link do: which outcomes come of each.
use Rattle.std.proofs.Common.{◌≡◌, ℕ, zero, suc, Bool, true, false, not, ◌&&◌, ◌||◌, ◌==◌, eqb, List, [], ◌∷◌, ◌++◌, map, Option, Some, None, refl, sym, ap, subst, ◌∙◌, if◌then◌else◌}
use Rattle.std.specs.Prelude.{find, is_some}
use Rattle.std.specs.List.{AllByRecursion, flat_map}
use Rattle.scenario_laws.specs.bt_base.specs.declared.settings.Settings.{Settings}
use Rattle.scenario_laws.specs.push_terms.specs.declared.outcome.Outcome.{Outcome}
use Rattle.scenario_laws.specs.push_terms.specs.declared.outcome.Outcome.TheVariants.{Done, LinkLost, RetryLimit, Refused, NoService, ShelfFault, PeerClosed, PeerFault, Cancelled as PushCancelled}
use Rattle.scenario_laws.specs.ertm_model.specs.declared.reason.ErtmReason.{ErtmReason}
use Rattle.scenario_laws.specs.ertm_model.specs.declared.reason.ErtmReason.TheVariants as machines
use Rattle.scenario_laws.specs.ertm_model.specs.Giving.{timed}
use Rattle.scenario_laws.specs.ertm_model.specs.Reasons.{number_of}
use Rattle.scenario_laws.specs.ertm_model.specs.Value.{Ertm}
use Rattle.scenario_laws.specs.channel_model.specs.declared.errand.Errand.{Errand}
use Rattle.scenario_laws.specs.channel_model.specs.declared.errand.Errand.TheVariants as errands
use Rattle.scenario_laws.specs.channel_model.specs.declared.event.ChannelEvent.{ChannelEvent}
use Rattle.scenario_laws.specs.channel_model.specs.declared.event.ChannelEvent.TheVariants as channels
use Rattle.scenario_laws.specs.channel_model.specs.declared.event.CloseReason.{CloseReason}
use Rattle.scenario_laws.specs.channel_model.specs.declared.event.CloseReason.TheVariants as reasons
use Rattle.scenario_laws.specs.channel_model.specs.Asking.{Fired, StillDue, OnceMore, Spent, fired, asks, new_request}
use Rattle.scenario_laws.specs.channel_model.specs.Following.{with_channel}
use Rattle.scenario_laws.specs.channel_model.specs.Calls.{connected, asks_features, disconnected_held, disconnected_at, sends_held, sends_on, sends, link_down, lost_at, can_connect, waits}
use Rattle.scenario_laws.specs.channel_model.specs.Carrying.{reason_of, settles_machine}
use Rattle.scenario_laws.specs.channel_model.specs.Changing.{held_at, setup_of}
use Rattle.scenario_laws.specs.channel_model.specs.Closing.{closes, closes_at, ends, ends_at}
use Rattle.scenario_laws.specs.channel_model.specs.Giving.{Given, next_given, queue_given, held_given, carrier_spent, counted, stage_given, gives, after_given}
use Rattle.scenario_laws.specs.channel_model.specs.Policies.{Policy, policy}
use Rattle.scenario_laws.specs.channel_model.specs.Timing.{fires, times_carrier, times_setup, times_stage, times_held, loses_end, times_end_at, times_end, times_channel, times_channels, loses_features, times_features, timed_out}
use Rattle.scenario_laws.specs.channel_model.specs.Value.{Request, Queued, Answer, Ask, Own, Unasked, Asking, Granted, Carrier, Plain, Retransmitting, Setup, Stage, Requested, Connected, Leaving, Closing, Crossed, Held, Channels}
use Rattle.scenario_laws.specs.push_model.specs.declared.closing.CloseCause.{CloseCause}
use Rattle.scenario_laws.specs.push_model.specs.declared.closing.CloseCause.TheVariants as closing
use Rattle.scenario_laws.specs.push_model.specs.Causes.{cause_of_link, cause_of_close}
use Rattle.scenario_laws.specs.push_model.specs.Client.{Client, begins, cancelled, may_cancel}
use Rattle.scenario_laws.specs.push_model.specs.Events as events
use Rattle.scenario_laws.specs.push_model.specs.Events.{hears_news, is_linked, is_asking_features}
use Rattle.scenario_laws.specs.push_model.specs.Laws.{Hears, Asks, Finishes}
use Rattle.scenario_laws.specs.push_model.specs.Payloads.{Payload}
use Rattle.scenario_laws.specs.sdp_client.specs.Asking.{is_due}
use Rattle.scenario_laws.specs.push_model.specs.Shown.{watched, closed_shows}
use Rattle.scenario_laws.specs.push_model.specs.Steps.{Part, Step, Wait, MakeLink, AskFeatures, OpenChannel, SendSdu, CloseChannel, BreakLink, Ended, NoMemory, steps}
use Rattle.scenario_laws.specs.world_model.specs.Machines.{Linked, Up, Down, TimerFired, Cancelled, Opening}
use Rattle.scenario_laws.specs.host_model.specs.Circumstances.{Circumstance}
use Rattle.scenario_laws.specs.host_model.specs.Clients as clients
use Rattle.scenario_laws.specs.host_model.specs.Clients.{ClientProfile, client_profile, cause_of, ended, fitted, takes, submits}
use Rattle.scenario_laws.specs.host_model.specs.Endpoints.{endpoint_of, takes_sdu}
use Rattle.scenario_laws.specs.host_model.specs.Hosts.{Host, most_steps, hears_news as host_hears, ready, hear, next, tells_each, tells_events, with_channels, strides, settles, drives, says, after_said, steps_behind}
use Rattle.scenario_laws.specs.host_model.specs.Pdus.{pdu_of, sdu_of, is_frame}
use Rattle.scenario_laws.specs.host_model.specs.Profiles.{Profile}
use Rattle.scenario_laws.specs.host_model.specs.Shelves.{size_for, name_for, unused}
use Rattle.scenario_laws.specs.host_model.proofs.Keeping.{tells, drives_on}
use Rattle.scenario_laws.specs.host_laws.proofs.OnwardSteps.{IsSo, keeps_so}
use Rattle.scenario_laws.specs.host_laws.specs.Feeds.{Learns, Happens, Sent, Steps}
use Rattle.scenario_laws.specs.host_laws.specs.Pushing.{Affair, Begins, Does, client_behind, end_asked, link_asked, then_ends, then_calls, closed_pushed, event_pushed, sent_pushed, step_pushed}
use Rattle.scenario_laws.specs.host_laws.proofs.Pushing.{feed_so}
use Rattle.cause_laws.proofs.Clients.{never, is_shelf, is_unsaid, either, Within, within_more, ShowsWithin, asks_within, Came, came_same, came_then, came_more, IsWithin, came_behind, HasCome, has_come, over_comes, lame_behind, begins_shelf}
use Rattle.cause_laws.proofs.Profiles.{came_fed, keeps_lame, well_before, cancelled_so}

-- ---- outcomes

-- of a timer that fires
abbrev pub is_timed : Outcome → Bool
is_timed RetryLimit = true
is_timed ShelfFault = true
is_timed (PeerFault layer reason) = layer == 2
is_timed outcome = false

-- of the end of a link
abbrev pub is_gone : (by_user : Bool) → Outcome → Bool
is_gone by_user LinkLost = not by_user
is_gone by_user ShelfFault = true
is_gone by_user PeerClosed = by_user
is_gone by_user outcome = false

pub timed_unsaid : (outcome : Outcome) → is_timed outcome ≡ true → is_unsaid outcome ≡ true
timed_unsaid Done is = is
timed_unsaid (Refused code) is = is
timed_unsaid NoService is = is
timed_unsaid outcome is = refl

pub gone_unsaid : (by_user : Bool) (outcome : Outcome) → is_gone by_user outcome ≡ true → is_unsaid outcome ≡ true
gone_unsaid by_user Done is = is
gone_unsaid by_user (Refused code) is = is
gone_unsaid by_user NoService is = is
gone_unsaid by_user outcome is = refl

-- the fault of the shelf is among them
abbrev HasShelf : (Outcome → Bool) → Type 0
HasShelf q = (outcome : Outcome) → is_shelf outcome ≡ true → q outcome ≡ true

pub shelf_timed : (outcome : Outcome) → is_shelf outcome ≡ true → is_timed outcome ≡ true
shelf_timed ShelfFault is = refl
shelf_timed outcome is = cc

shelf_gone : (by_user : Bool) (outcome : Outcome) → is_shelf outcome ≡ true → is_gone by_user outcome ≡ true
shelf_gone by_user ShelfFault is = refl
shelf_gone by_user outcome is = never is

-- ---- what channels have to tell

all_one : (Q : ChannelEvent → Type 0) (list : List ChannelEvent) (event : ChannelEvent) → AllByRecursion Q list → Q event → AllByRecursion Q (list ++ event ∷ [])
all_one Q [] event all one = (one, tt)
all_one Q (first ∷ list) event all one = (all.0, all_one Q list event all.1 one)

module _ (Q : ChannelEvent → Type 0) where
  abbrev Tell : Channels → Type 0
  Tell v = AllByRecursion Q v.events

  closes_tell : (reason : CloseReason) (stage : Stage) (held : Held) (v : Channels) → Q (channels.Closed held.own held.psm reason) → Tell v → Tell (closes_at stage reason held v)
  closes_tell reason (Requested request) held v one all = all_one Q v.events (channels.Closed held.own held.psm reason) all one
  closes_tell reason (Connected peer setup) held v one all = all_one Q v.events (channels.Closed held.own held.psm reason) all one
  closes_tell reason (Leaving peer setup request) held v one all = all_one Q v.events (channels.Closed held.own held.psm reason) all one
  closes_tell reason (Closing peer request checked) held v one all = all
  closes_tell reason (Crossed peer request) held v one all = all

  ends_tell : (reason : CloseReason) (stage : Stage) (held : Held) (v : Channels) → Q (channels.Closed held.own held.psm reason) → Tell v → Tell (ends_at stage reason held v)
  ends_tell reason (Requested request) held v one all = all
  ends_tell reason (Connected peer setup) held v one all = all
  ends_tell reason (Leaving peer setup request) held v one all = all_one Q v.events (channels.Closed held.own held.psm reason) all one
  ends_tell reason (Closing peer request checked) held v one all = all
  ends_tell reason (Crossed peer request) held v one all = all

-- the host closed it itself
abbrev IsOwnReason : CloseReason → Type 0
IsOwnReason reasons.LinkDown = Unit {0}
IsOwnReason reasons.OwnClosed = Unit {0}
IsOwnReason reason = ⊥

-- a channel ended as its host asked, or with its link
abbrev IsOwn : ChannelEvent → Type 0
IsOwn (channels.Closed own psm reason) = IsOwnReason reason
IsOwn event = ⊥

-- it ended, but not since the peer asked for that; or something was asked for as often as may be
abbrev IsLateReason : CloseReason → Type 0
IsLateReason reasons.PeerClosed = ⊥
IsLateReason reason = Unit {0}

abbrev IsLate : ChannelEvent → Type 0
IsLate (channels.Opened own psm) = ⊥
IsLate (channels.Closed own psm reason) = IsLateReason reason
IsLate (channels.Features features) = ⊥
IsLate event = Unit {0}

-- ---- a PDU is given

stage_given_same : (f : Stage → Stage) (found : Option Held) (v : Channels) → (stage_given f found v).events ≡ v.events
stage_given_same f None v = refl
stage_given_same f (Some held) v = refl

counted_same : (errand : Errand) (v : Channels) → (counted errand v).events ≡ v.events
counted_same (errands.Connection own) v = stage_given_same _ (held_at own v) v
counted_same (errands.Configuration own) v = stage_given_same _ (held_at own v) v
counted_same (errands.Disconnection own) v = stage_given_same _ (held_at own v) v
counted_same errands.Features v = refl

spent_same : (setup : Option Setup) (held : Held) (v : Channels) → (carrier_spent setup held v).events ≡ v.events
spent_same None held v = refl
spent_same (Some setup) held v = refl

held_same : (found : Option Held) (v : Channels) → (held_given found v).events ≡ v.events
held_same None v = refl
held_same (Some held) v = spent_same (setup_of held.stage) held v

given_same : (queue : List Queued) (v : Channels) → (queue_given queue v).events ≡ v.events
given_same [] v = held_same (find gives v.held) v
given_same (Answer command ∷ behind) v = refl
given_same (Ask errand ∷ behind) v = counted_same errand (record v { queue = behind })

-- ---- the timer

machine_late : (reason : ErtmReason) → IsLateReason (reason_of reason)
machine_late machines.BadReqSeq = tt
machine_late machines.Srej = tt
machine_late machines.BadSegment = tt
machine_late machines.RetryLimit = tt
machine_late machines.TooLongSdu = tt
machine_late machines.BadFrame = tt

abbrev Late : Channels → Type 0
Late v = AllByRecursion IsLate v.events

fires_late : (found : Fired) (errand : Errand) (spent : Channels → Channels) (v : Channels) → Late v → ((w : Channels) → Late w → Late (spent w)) → Late (fires found errand spent v)
fires_late StillDue errand spent v late goes = late
fires_late OnceMore errand spent v late goes = late
fires_late Spent errand spent v late goes = goes v late

machine_goes : (closed : Option ErtmReason) (machine : Ertm) (held : Held) (setup : Setup) (v : Channels) → Late v → Late (settles_machine closed machine held setup v)
machine_goes None machine held setup v late = late
machine_goes (Some reason) machine held setup v late = closes_tell IsLate (reason_of reason) held.stage held v (machine_late reason) late

carrier_late : (carrier : Option Carrier) (held : Held) (setup : Setup) (v : Channels) → Late v → Late (times_carrier carrier held setup v)
carrier_late None held setup v late = late
carrier_late (Some (Plain agreed waiting)) held setup v late = late
carrier_late (Some (Retransmitting machine)) held setup v late = machine_goes (timed machine).closed (timed machine) held setup v late

setup_late : (own : Own) (tries : ℕ) (held : Held) (setup : Setup) (v : Channels) → Late v → Late (times_setup own tries held setup v)
setup_late Unasked tries held setup v late = carrier_late setup.carrier held setup v late
setup_late (Asking request options) tries held setup v late =
    fires_late (fired tries (errands.Configuration held.own) request v) (errands.Configuration held.own) (closes reasons.RetryLimit held) v late (λ w now. closes_tell IsLate reasons.RetryLimit held.stage held w tt now)
setup_late Granted tries held setup v late = carrier_late setup.carrier held setup v late

stage_late : (stage : Stage) (tries : ℕ) (held : Held) (v : Channels) → Late v → Late (times_stage stage tries held v)
stage_late (Requested request) tries held v late =
    fires_late (fired tries (errands.Connection held.own) request v) (errands.Connection held.own) (closes reasons.RetryLimit held) v late (λ w now. closes_tell IsLate reasons.RetryLimit held.stage held w tt now)
stage_late (Connected peer setup) tries held v late = setup_late setup.own tries held setup v late
stage_late (Leaving peer setup request) tries held v late = setup_late setup.own tries held setup v late
stage_late (Closing peer request checked) tries held v late = late
stage_late (Crossed peer request) tries held v late = late

held_late : (found : Option Held) (tries : ℕ) (v : Channels) → Late v → Late (times_held found tries v)
held_late None tries v late = late
held_late (Some held) tries v late = stage_late held.stage tries held v late

lost_late : (held : Held) (v : Channels) → Late v → Late (loses_end held v)
lost_late held v late = all_one IsLate (ends reasons.RetryLimit held v).events (channels.DisconnectLost held.own) (ends_tell IsLate reasons.RetryLimit held.stage held v tt late) tt

end_late : (stage : Stage) (tries : ℕ) (held : Held) (v : Channels) → Late v → Late (times_end_at stage tries held v)
end_late (Requested request) tries held v late = late
end_late (Connected peer setup) tries held v late = late
end_late (Leaving peer setup request) tries held v late =
    fires_late (fired tries (errands.Disconnection held.own) request v) (errands.Disconnection held.own) (ends reasons.RetryLimit held) v late (λ w now. ends_tell IsLate reasons.RetryLimit held.stage held w tt now)
end_late (Closing peer request checked) tries held v late = fires_late (fired tries (errands.Disconnection held.own) request v) (errands.Disconnection held.own) (loses_end held) v late (λ w now. lost_late held w now)
end_late (Crossed peer request) tries held v late = fires_late (fired tries (errands.Disconnection held.own) request v) (errands.Disconnection held.own) (loses_end held) v late (λ w now. lost_late held w now)

ended_late : (found : Option Held) (tries : ℕ) (v : Channels) → Late v → Late (times_end found tries v)
ended_late None tries v late = late
ended_late (Some held) tries v late = end_late held.stage tries held v late

channels_late : (tries : ℕ) (owns : List ℕ) (v : Channels) → Late v → Late (times_channels tries owns v)
channels_late tries [] v late = late
channels_late tries (own ∷ owns) v late =
    let after = times_held (held_at own v) tries v in channels_late tries owns (times_channel tries own v) (ended_late (held_at own after) tries after (held_late (held_at own v) tries v late))

features_late : (found : Option Request) (tries : ℕ) (v : Channels) → Late v → Late (times_features found tries v)
features_late None tries v late = late
features_late (Some request) tries v late =
    fires_late (fired tries errands.Features request v) errands.Features loses_features v late (λ w now. all_one IsLate w.events channels.FeaturesLost now tt)

timed_late : (policy : Policy) (v : Channels) → Late v → Late (timed_out policy v)
timed_late policy v late =
    let after = times_channels policy.tries (map (λ (held : Held). held.own) v.held) v in
    features_late after.features policy.tries after (channels_late policy.tries (map (λ (held : Held). held.own) v.held) v late)

-- ---- what is told of it

close_timed : (cause : CloseCause) → (cause ≡ closing.Peer → ⊥) → Within is_timed (cause_of_close cause)
close_timed closing.Peer apart = absurd (apart refl)
close_timed (closing.Refused result) apart = refl
close_timed closing.NoAgreement apart = refl
close_timed closing.RetryLimit apart = refl
close_timed (closing.Broken number) apart = by (eqb number 5)
  where
    by : (test : Bool) → is_timed (if test then RetryLimit else PeerFault 2 number) ≡ true
    by true = refl
    by false = refl
close_timed closing.Own apart = tt

shut_within : (q : Outcome → Bool) (psm : ℕ) (cause : CloseCause) → Within q (cause_of_close cause) → ShowsWithin q (Hears (events.ChannelClosed psm cause))
shut_within q psm cause within client = by (watched client.stage client)
  where
    by : (own : Option ℕ) → Within q (closed_shows psm cause own)
    by None = tt
    by (Some own) = either q (eqb psm own) (cause_of_close cause) None within tt

reason_timed : (reason : CloseReason) (psm : ℕ) → IsLateReason reason → AllByRecursion (IsWithin is_timed) (closed_pushed (cause_of reason) psm)
reason_timed reasons.PeerClosed psm late = absurd late
reason_timed (reasons.Refused answer) psm late = (shut_within is_timed psm (closing.Refused answer) (close_timed (closing.Refused answer) (λ is. cc)), tt)
reason_timed reasons.NoAgreement psm late = (shut_within is_timed psm closing.NoAgreement refl, tt)
reason_timed reasons.RetryLimit psm late = (shut_within is_timed psm closing.RetryLimit refl, tt)
reason_timed (reasons.Ertm reason) psm late = (shut_within is_timed psm (closing.Broken (number_of reason)) (close_timed (closing.Broken (number_of reason)) (λ is. cc)), tt)
reason_timed reasons.LinkDown psm late = tt
reason_timed reasons.OwnClosed psm late = (shut_within is_timed psm closing.Own tt, tt)

event_timed : (event : ChannelEvent) (v : Channels) → IsLate event → AllByRecursion (IsWithin is_timed) (event_pushed event v)
event_timed (channels.Opened own psm) v late = absurd late
event_timed (channels.Closed own psm reason) v late = reason_timed reason psm late
event_timed (channels.Features features) v late = absurd late
event_timed channels.FeaturesLost v late = ((λ client. either is_timed (is_asking_features client.stage) (Some RetryLimit) None refl tt), tt)
event_timed (channels.DisconnectLost own) v late = tt

reason_shelf : (reason : CloseReason) (psm : ℕ) → IsOwnReason reason → AllByRecursion (IsWithin is_shelf) (closed_pushed (cause_of reason) psm)
reason_shelf reasons.PeerClosed psm own = absurd own
reason_shelf (reasons.Refused answer) psm own = absurd own
reason_shelf reasons.NoAgreement psm own = absurd own
reason_shelf reasons.RetryLimit psm own = absurd own
reason_shelf (reasons.Ertm reason) psm own = absurd own
reason_shelf reasons.LinkDown psm own = tt
reason_shelf reasons.OwnClosed psm own = (shut_within is_shelf psm closing.Own tt, tt)

event_shelf : (event : ChannelEvent) (v : Channels) → IsOwn event → AllByRecursion (IsWithin is_shelf) (event_pushed event v)
event_shelf (channels.Opened own psm) v is = absurd is
event_shelf (channels.Closed own psm reason) v is = reason_shelf reason psm is
event_shelf (channels.Features features) v is = absurd is
event_shelf channels.FeaturesLost v is = absurd is
event_shelf (channels.DisconnectLost own) v is = absurd is

-- ---- its steps

abbrev Owns : Channels → Type 0
Owns v = AllByRecursion IsOwn v.events

left_own : (stage : Stage) (held : Held) (v : Channels) → Owns v → Owns (disconnected_at stage held v)
left_own (Requested request) held v own = closes_tell IsOwn reasons.OwnClosed held.stage held v tt own
left_own (Connected peer setup) held v own = own
left_own (Leaving peer setup request) held v own = own
left_own (Closing peer request checked) held v own = own
left_own (Crossed peer request) held v own = own

disconnected_own : (found : Option Held) (v : Channels) → Owns v → Owns (disconnected_held found v)
disconnected_own None v own = own
disconnected_own (Some held) v own = left_own held.stage held v own

sends_own : (found : Option Held) (sdu : List ℕ) (v : Channels) → Owns v → Owns (sends_held found sdu v)
sends_own None sdu v own = own
sends_own (Some held) sdu v own = by (setup_of held.stage)
  where
    by : (setup : Option Setup) → Owns (sends_on setup sdu held v)
    by None = own
    by (Some setup) = own

connected_own : (psm : ℕ) (v : Channels) → Owns v → Owns (connected psm v)
connected_own psm v own = by (can_connect v)
  where
    by : (can : Bool) → Owns (if can then asks (errands.Connection v.next) (with_channel psm (Requested (new_request v)) v) else v)
    by true = own
    by false = own

features_own : (v : Channels) → Owns v → Owns (asks_features v)
features_own v own = by (is_some v.features)
  where
    by : (some : Bool) → Owns (if some then v else asks errands.Features (record v { features = Some (new_request v) }))
    by true = own
    by false = own

closes_own : (found : Option ℕ) (v : Channels) → Owns v → Owns (clients.closes found v)
closes_own None v own = own
closes_own (Some endpoint) v own = disconnected_own (held_at endpoint v) v own

submits_own : (found : Option ℕ) (payload : Payload) (v : Channels) (p : ClientProfile) → Owns v → Owns (submits found payload v p).channels
submits_own None payload v p own = own
submits_own (Some endpoint) payload v p own = by (takes_sdu endpoint (sdu_of payload) v)
  where
    by : (taken : Bool) → Owns (if taken then clients.waiting (sends endpoint (sdu_of payload) v) (record p { submitted = Some endpoint }) else clients.waiting v p).channels
    by true = sends_own (held_at endpoint v) (sdu_of payload) v own
    by false = own

takes_own : (step : Step) (v : Channels) (after before : ClientProfile) → Owns v → Owns (takes step v after before).channels
takes_own Wait v after before own = own
takes_own MakeLink v after before own = own
takes_own AskFeatures v after before own = features_own v own
takes_own (OpenChannel psm) v after before own = connected_own psm v own
takes_own (SendSdu psm payload) v after before own = submits_own (endpoint_of psm after.endpoints) payload v after own
takes_own (CloseChannel psm) v after before own = closes_own (endpoint_of psm after.endpoints) v own
takes_own BreakLink v after before own = own
takes_own (Ended outcome) v after before own = own
takes_own NoMemory v after before own = own

asks_shelf : (parts : List Part) → ShowsWithin is_shelf (Asks parts)
asks_shelf parts client = asks_within parts client

sent_shelf : (own : Option ℕ) (v : Channels) → AllByRecursion (IsWithin is_shelf) (sent_pushed own v)
sent_shelf None v = tt
sent_shelf (Some own) v = by (waits own v)
  where
    by : (test : Bool) → AllByRecursion (IsWithin is_shelf) (if test then [] else Does Finishes ∷ [])
    by true = tt
    by false = ((λ client. tt), tt)

step_shelf : (step : Step) (parts : List Part) → AllByRecursion (IsWithin is_shelf) (step_pushed step parts)
step_shelf Wait parts = (asks_shelf parts, tt)
step_shelf MakeLink parts = tt
step_shelf AskFeatures parts = (asks_shelf parts, ((λ client. tt), tt))
step_shelf (OpenChannel psm) parts = (asks_shelf parts, ((λ client. tt), tt))
step_shelf (SendSdu psm payload) parts = (asks_shelf parts, tt)
step_shelf (CloseChannel psm) parts = (asks_shelf parts, ((λ client. tt), tt))
step_shelf BreakLink parts = (asks_shelf parts, ((λ client. tt), tt))
step_shelf (Ended outcome) parts = (asks_shelf parts, tt)
step_shelf NoMemory parts = (asks_shelf parts, tt)

end_shelf : (step : Step) → AllByRecursion (IsWithin is_shelf) (end_asked step)
end_shelf Wait = tt
end_shelf MakeLink = tt
end_shelf AskFeatures = tt
end_shelf (OpenChannel psm) = tt
end_shelf (SendSdu psm payload) = tt
end_shelf (CloseChannel psm) = tt
end_shelf BreakLink = tt
end_shelf (Ended outcome) = (asks_shelf [], tt)
end_shelf NoMemory = tt

call_shelf : (step : Step) → AllByRecursion (IsWithin is_shelf) (link_asked step)
call_shelf Wait = tt
call_shelf MakeLink = (asks_shelf [], ((λ client. tt), tt))
call_shelf AskFeatures = tt
call_shelf (OpenChannel psm) = tt
call_shelf (SendSdu psm payload) = tt
call_shelf (CloseChannel psm) = tt
call_shelf BreakLink = tt
call_shelf (Ended outcome) = tt
call_shelf NoMemory = tt

shelf_more : (q : Outcome → Bool) → HasShelf q → (affairs : List Affair) → AllByRecursion (IsWithin is_shelf) affairs → AllByRecursion (IsWithin q) affairs
shelf_more q more [] all = tt
shelf_more q more (Begins size name ∷ affairs) all = absurd all.0
shelf_more q more (Does deed ∷ affairs) all = ((λ client. within_more is_shelf q more _ (all.0 client)), shelf_more q more affairs all.1)

both_shelf : (one two : List Affair) → AllByRecursion (IsWithin is_shelf) one → AllByRecursion (IsWithin is_shelf) two → AllByRecursion (IsWithin is_shelf) (one ++ two)
both_shelf [] two x y = y
both_shelf (affair ∷ one) two x y = (x.0, both_shelf one two x.1 y)

-- ---- a host

module _ (settings : Settings) where
  abbrev C : Profile ClientProfile
  C = client_profile settings

  each_told : (q : Outcome → Bool) (Q : ChannelEvent → Type 0) → ((event : ChannelEvent) (v : Channels) → Q event → AllByRecursion (IsWithin q) (event_pushed event v)) → (list : List ChannelEvent) (v : Channels) (p : ClientProfile) (old : Option Outcome) → AllByRecursion Q list → Came q old p.client.cause
      → Came q old (tells_each (client_profile settings) list v p).client.cause
  each_told q Q within [] v p old all came = came
  each_told q Q within (event ∷ list) v p old all came =
      let u : Channels = record v { events = list } in
      each_told q Q within list u (C.happened event u p) old all.1 (came_fed settings q old p (Happens event u) (within event u all.0) came)

  pick : (P : Host ClientProfile → Type 0) (given again : Bool) (stay go on : Host ClientProfile) → P stay → P go → P on → P (if given then stay else (if again then go else on))
  pick P true again stay go on x y z = x
  pick P false true stay go on x y z = y
  pick P false false stay go on x y z = z

  -- asked for its steps it shows the fault of its shelf alone
  drives_shelf : (old : Option Outcome) (count : ℕ) (host : Host ClientProfile) → host.channels.events ≡ [] → Came is_shelf old host.profile.client.cause → Came is_shelf old (drives (client_profile settings) count host).profile.client.cause
  unfolding drives
  drives_shelf old zero host none came = came_fed settings is_shelf old host.profile (Sent host.channels) (sent_shelf host.profile.submitted host.channels) came
  drives_shelf old (suc count) host none came =
      let now : Host ClientProfile = settles C host in
      let stride = C.steps now.channels now.profile in
      let on = strides C stride now in
      let settled : Came is_shelf old now.profile.client.cause = came_fed settings is_shelf old host.profile (Sent host.channels) (sent_shelf host.profile.submitted host.channels) came in
      let one = steps now.profile.client (fitted now.profile) in
      let owns : Owns stride.channels = takes_own one.step now.channels (record (now.profile) { client = one.client; parts = unused one.left now.profile.parts }) now.profile (subst (AllByRecursion IsOwn) (sym none) tt) in
      let stepped : Came is_shelf old stride.profile.client.cause = came_fed settings is_shelf old now.profile (Steps now.channels) (step_shelf one.step (fitted now.profile)) settled in
      let told : Came is_shelf old on.profile.client.cause = each_told is_shelf IsOwn event_shelf stride.channels.events stride.channels stride.profile old owns stepped in
      pick (λ (h : Host ClientProfile). Came is_shelf old h.profile.client.cause) (is_some (next_given now.channels)) stride.more now (drives C count on) on settled (drives_shelf old count on refl told) told

  driven_came : (q : Outcome → Bool) → HasShelf q → (old : Option Outcome) (host : Host ClientProfile) → host.channels.events ≡ [] → Came q old host.profile.client.cause → Came q old (drives (client_profile settings) most_steps host).profile.client.cause
  driven_came q more old host none came =
      came_then q old host.profile.client.cause (drives C most_steps host).profile.client.cause came
      (came_more is_shelf q more host.profile.client.cause (drives C most_steps host).profile.client.cause (drives_shelf host.profile.client.cause most_steps host none (came_same is_shelf host.profile.client.cause)))

  -- ---- what it hears and says

  abbrev Said : Option Outcome → Option (List ℕ × Host ClientProfile) → Type 0
  Said old None = Unit {0}
  Said old (Some one) = Came is_shelf old one.1.profile.client.cause

  says_shelf : (given : Option Given) (count : ℕ) (host : Host ClientProfile) → host.channels.events ≡ [] → Said host.profile.client.cause (says (client_profile settings) given count host)
  says_shelf None count host none = tt
  says_shelf (Some given) zero host none = tt
  says_shelf (Some given) (suc count) host none = by (is_frame (pdu_of given))
    where
      old : Option Outcome
      old = host.profile.client.cause

      by : (fits : Bool) → Said host.profile.client.cause (if fits then Some (pdu_of given, after_said (client_profile settings) count host) else None)
      by true =
          drives_shelf host.profile.client.cause (steps_behind count) (with_channels (after_given host.channels) host) (given_same host.channels.queue host.channels ∙ none) (came_same is_shelf host.profile.client.cause)
      by false = tt

  pub next_shelf : (host : Host ClientProfile) (pdu : List ℕ) (after : Host ClientProfile) → host.channels.events ≡ [] → next (client_profile settings) host ≡ Some (pdu, after) → Came is_shelf host.profile.client.cause after.profile.client.cause
  next_shelf host pdu after none is = subst (Said host.profile.client.cause) is (says_shelf (next_given host.channels) host.may_say host none)

  pub up_shelf : (gifts : List Circumstance) (host : Host ClientProfile) → host.channels.events ≡ [] → Came is_shelf host.profile.client.cause (hear (client_profile settings) gifts (Linked Up) host).profile.client.cause
  up_shelf gifts host none =
      let old = host.profile.client.cause in
      let now = ready C gifts host in
      driven_came is_shelf (λ outcome is. is) old (host_hears C gifts (Linked Up) now) none (came_fed settings is_shelf old now.profile (Learns gifts (Linked Up)) ((λ client. tt), tt) (came_same is_shelf old))

  pub timer_timed : (gifts : List Circumstance) (host : Host ClientProfile) → host.channels.events ≡ [] → Came is_timed host.profile.client.cause (hear (client_profile settings) gifts TimerFired host).profile.client.cause
  timer_timed gifts host none =
      let old = host.profile.client.cause in
      let now = ready C gifts host in
      let v = timed_out C.policy now.channels in
      let p = tells_each C v.events v now.profile in
      let late = timed_late C.policy now.channels (subst (AllByRecursion IsLate) (sym none) tt) in
      let told : Came is_timed old p.client.cause = each_told is_timed IsLate event_timed v.events v now.profile old late (came_same is_timed old) in
      driven_came is_timed shelf_timed old (host_hears C gifts TimerFired now) refl (came_fed settings is_timed old p (Learns gifts TimerFired) (timer_shows, tt) told)
    where
      timer_shows : ShowsWithin is_timed (Hears events.Timer)
      timer_shows client = either is_timed ((events.armed client && not (client.given || is_due client.query)) && (eqb client.left 0)) (Some RetryLimit) None refl tt

  lost_own : (stage : Stage) (held : Held) → AllByRecursion IsOwn (lost_at stage held)
  lost_own (Requested request) held = (tt, tt)
  lost_own (Connected peer setup) held = (tt, tt)
  lost_own (Leaving peer setup request) held = (tt, tt)
  lost_own (Closing peer request checked) held = tt
  lost_own (Crossed peer request) held = tt

  both_own : (one two : List ChannelEvent) → AllByRecursion IsOwn one → AllByRecursion IsOwn two → AllByRecursion IsOwn (one ++ two)
  both_own [] two x y = y
  both_own (event ∷ one) two x y = (x.0, both_own one two x.1 y)

  all_lost : (list : List Held) → AllByRecursion IsOwn (flat_map (λ (held : Held). lost_at held.stage held) list)
  all_lost [] = tt
  all_lost (held ∷ list) = both_own (lost_at held.stage held) (flat_map (λ (held : Held). lost_at held.stage held) list) (lost_own held.stage held) (all_lost list)

  pub down_gone : (gifts : List Circumstance) (reason : ℕ) (host : Host ClientProfile) → host.channels.events ≡ [] → Came (is_gone (reason == 0x13)) host.profile.client.cause (hear (client_profile settings) gifts (Linked (Down reason)) host).profile.client.cause
  down_gone gifts reason host none =
      let old = host.profile.client.cause in
      let q = is_gone (reason == 0x13) in
      let more = shelf_gone (reason == 0x13) in
      let now = ready C gifts host in
      let v = link_down now.channels in
      let p = tells_each C v.events v now.profile in
      let lost : AllByRecursion IsOwn v.events = subst (λ (l : List ChannelEvent). AllByRecursion IsOwn (l ++ flat_map (λ (held : Held). lost_at held.stage held) now.channels.held)) (sym none) (all_lost now.channels.held) in
      let told : Came q old p.client.cause = each_told q IsOwn (λ event u is. shelf_more q more (event_pushed event u) (event_shelf event u is)) v.events v now.profile old lost (came_same q old) in
      let heard = hears_news (events.LinkDown reason) p.client in
      driven_came q more old (host_hears C gifts (Linked (Down reason)) now) refl (came_fed settings q old p (Learns gifts (Linked (Down reason))) (down_shows, shelf_more q more (then_ends heard) (end_shelf (steps heard []).step)) told)
    where
      link_shows : (by_user : Bool) → Within (is_gone by_user) (Some (if by_user then PeerClosed else LinkLost))
      link_shows true = refl
      link_shows false = refl

      down_shows : ShowsWithin (is_gone (reason == 0x13)) (Hears (events.LinkDown reason))
      down_shows client = either (is_gone (reason == 0x13)) (is_linked client.stage) (Some (cause_of_link reason)) None (link_shows (reason == 0x13)) tt

  -- on its link it has an outcome once that ended
  pub down_comes : (gifts : List Circumstance) (reason : ℕ) (host : Host ClientProfile) → IsSo true host.profile → HasCome (hear (client_profile settings) gifts (Linked (Down reason)) host).profile.client.cause
  down_comes gifts reason host so =
      let now = ready C gifts host in
      let gone : Host ClientProfile = with_channels (link_down now.channels) now in
      let p = (tells_events C gone).profile in
      let p_so : IsSo true p = tells C (IsSo true) (keeps_so settings true) gone ((keeps_so settings true).given gifts host.profile so) in
      let heard = hears_news (events.LinkDown reason) p.client in
      let heard_comes : HasCome heard.cause = subst (λ (b : Bool). HasCome (if b then events.over (cause_of_link reason) p.client else p.client).cause) (sym (p_so.linked refl)) (over_comes (cause_of_link reason) p.client) in
      let mid = host_hears C gifts (Linked (Down reason)) now in
      let mid_comes : HasCome mid.profile.client.cause =
      subst (λ (c : Client). HasCome c.cause) (sym (feed_so settings p (Learns gifts (Linked (Down reason))))) (has_come is_shelf heard.cause (client_behind (then_ends heard) heard).cause (came_behind is_shelf (then_ends heard) heard (end_shelf (steps heard []).step)) heard_comes) in
      has_come is_shelf mid.profile.client.cause (drives C most_steps mid).profile.client.cause (drives_shelf mid.profile.client.cause most_steps mid refl (came_same is_shelf mid.profile.client.cause)) mid_comes

  pub cancel_came : (gifts : List Circumstance) (host : Host ClientProfile) → host.channels.events ≡ [] → may_cancel host.profile.client ≡ true → (hear (client_profile settings) gifts Cancelled host).profile.client.cause ≡ Some PushCancelled
  cancel_came gifts host none may =
      let now = ready C gifts host in
      let c = cancelled now.profile.client in
      let told_is : (C.told gifts Cancelled now.profile).client.cause ≡ Some PushCancelled =
      ap (λ (d : Client). d.cause) (feed_so settings now.profile (Learns gifts Cancelled))
      ∙ subst (λ (x : Option Outcome). Came is_shelf x (client_behind (then_ends c) c).cause) (cancelled_so settings now.profile.client may) (came_behind is_shelf (then_ends c) c (end_shelf (steps c []).step)) in
      drives_shelf (Some PushCancelled) most_steps (host_hears C gifts Cancelled now) none told_is

  pub opens_shelf : (gifts : List Circumstance) (name : List ℕ) (host : Host ClientProfile) → host.channels.events ≡ [] → (hear (client_profile settings) gifts (Opening name) host).profile.client.failed ≡ false
      → Within is_shelf (hear (client_profile settings) gifts (Opening name) host).profile.client.cause
  opens_shelf gifts name host none well =
      let now = ready C gifts host in
      let p = now.profile in
      let mid = host_hears C gifts (Opening name) now in
      let size = size_for gifts name in
      let begun = begins size (name_for name) p.client in
      let rest = then_ends begun ++ then_calls (ended begun) in
      let is = feed_so settings p (Learns gifts (Opening name)) in
      let mid_well : mid.profile.client.failed ≡ false = well_before settings mid.profile.client.failed _ (drives_on C (λ (p : ClientProfile). p.client.failed ≡ true) (keeps_lame settings) most_steps mid) well in
      let begun_well : begun.failed ≡ false = well_before settings begun.failed mid.profile.client.failed (λ lame. ap (λ (c : Client). c.failed) is ∙ lame_behind rest begun lame) mid_well in
      let well_then : p.client.failed ≡ false = well_before settings p.client.failed begun.failed (λ lame. lame_behind (Begins size (name_for name) ∷ []) p.client lame) begun_well in
      let first = begins_shelf size (name_for name) p.client well_then begun_well in
      let within = both_shelf (then_ends begun) (then_calls (ended begun)) (end_shelf (steps begun []).step) (call_shelf (steps (ended begun) []).step) in
      let told : Came is_shelf None mid.profile.client.cause =
      subst (λ (c : Client). Within is_shelf c.cause) (sym is) (came_then is_shelf None begun.cause (client_behind rest begun).cause first (came_behind is_shelf rest begun within)) in
      driven_came is_shelf (λ outcome is. is) None mid none told
