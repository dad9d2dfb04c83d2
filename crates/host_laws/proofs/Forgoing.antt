-- Of each request that a host gives up it is told, but for a request for a channel that it takes back. Of a host that asks its channels for
-- nothing but to send, what it gives up is the end of a channel that it closed.
use Rattle.std.proofs.Common.{◌≡◌, ℕ, List, [], ◌∷◌, ◌++◌, map, drop, Bool, true, false, cond, eqb, ◌||◌, Option, Some, None, refl, sym, ap, subst, ◌∙◌, append_assoc, append-nil}
use Rattle.std.specs.Prelude.{find, filter, slice_get, option_to_list, option_map, is_some}
use Rattle.std.specs.List.{AllByRecursion, list_any}
use Rattle.std.proofs.lemmas.List.Folds.{list_any-append}
use Rattle.std.proofs.lemmas.List.Sums.{fold-append}
use Rattle.shelf_model.specs.acl_fragments.specs.Pieces.{channel_of}
use Rattle.shelf_model.specs.capture.specs.declared.flow.Flow.TheVariants.{Into}
use Rattle.shelf_model.specs.l2cap_signal.specs.Commands.{Command}
use Rattle.shelf_model.specs.l2cap_signal.specs.Reading.{Answer as Read, answers}
use Rattle.shelf_model.specs.ertm_model.specs.declared.reason.ErtmReason.{ErtmReason}
use Rattle.shelf_model.specs.ertm_model.specs.Value.{Ertm}
use Rattle.shelf_model.specs.ertm_model.specs.Giving.{timed}
use Rattle.push_laws.specs.link_talk.specs.Sayings.{Saying, Carried, GaveUp}
use Rattle.push_laws.specs.link_talk.specs.Sayings as sayings
use Rattle.shelf_model.specs.capture.specs.Histories.{EachAfter}
use Rattle.channel_laws.specs.channel_model.specs.declared.errand.Errand.{Errand}
use Rattle.channel_laws.specs.channel_model.specs.declared.errand.Errand.TheVariants as errands
use Rattle.channel_laws.specs.channel_model.specs.declared.event.ChannelEvent.{ChannelEvent}
use Rattle.channel_laws.specs.channel_model.specs.declared.event.ChannelEvent.TheVariants as events
use Rattle.channel_laws.specs.channel_model.specs.declared.event.CloseReason.{CloseReason}
use Rattle.channel_laws.specs.channel_model.specs.declared.event.CloseReason.TheVariants.{RetryLimit}
use Rattle.channel_laws.specs.channel_model.specs.Value.{Request, Ask, Own, Unasked, Asking, Granted, Carrier, Plain, Retransmitting, Setup, Stage, Requested, Connected, Leaving, Closing, Crossed, Held, Channels}
use Rattle.channel_laws.specs.channel_model.specs.Policies.{Policy}
use Rattle.channel_laws.specs.channel_model.specs.Changing.{has_own, in_place_of, held_at, has_fcs_by, setup_of, stage_with, to_setup, gone, queued}
use Rattle.channel_laws.specs.channel_model.specs.Asking.{new_request, Fired, StillDue, OnceMore, Spent, fired}
use Rattle.channel_laws.specs.channel_model.specs.Carrying.{reason_of, settles_machine, takes}
use Rattle.channel_laws.specs.channel_model.specs.Closing.{closes, closes_at, ends, ends_at}
use Rattle.channel_laws.specs.channel_model.specs.Following.{can_say}
use Rattle.channel_laws.specs.channel_model.specs.Giving.{Given, Signal, Whole, Framed, next_given}
use Rattle.channel_laws.specs.channel_model.specs.Hearing.{hears_command, hears_commands}
use Rattle.channel_laws.specs.channel_model.specs.Timing.{fires, times_carrier, times_setup, times_stage, times_held, loses_end, times_end_at, times_end, loses_features, times_features, times_channels}
use Rattle.channel_laws.specs.channel_model.specs.Calls.{connected, asks_features, disconnected_at, disconnected_held, disconnected, carrier_at}
use Rattle.channel_laws.specs.channel_model.proofs.Lookups.{own_of, Distinct, found-has, found-placed}
use Rattle.channel_laws.specs.channel_model.proofs.Going.{staged, Walks}
use Rattle.channel_laws.specs.channel_model.proofs.Walking.{commands-go}
use Rattle.channel_laws.specs.channel_model.proofs.Calling.{connected-goes, asks-features-goes, disconnected-goes, sends-goes, takes-goes, timed-held, ended-held, features-timed, given-goes}
use Rattle.channel_laws.specs.OwnTalk.{spoken, reply_to, exchanged, newest, said_of, asked_between, said_with, said_with_all}
use Rattle.channel_laws.specs.Runs.{Occurrence, Comes, Connects, AsksFeatures, Disconnects, Sends, Gives, Fires, Tells, forgone_between, given_up, features_given_up, said_again, said_on_firing, said_by_channel, fired_channel, said_by_channels, peer_at, said_by_carrier, said_as, said_in, told_in, value_after, Run, new_link, run_on, run_of, arisen}
use Rattle.channel_laws.proofs.Due.{Any}
use Rattle.channel_laws.proofs.Giving.{forgone_none, still_held}
use Rattle.channel_laws.proofs.Running.{all-sound}
use Rattle.host_laws.specs.Keeping.{GivesNothingUp, is_loss, is_end_lost, IsMoreThanAsked, IsThere, TakesNoneBack, LossesAreTold}
use Rattle.host_laws.specs.Seen.{is_spoken, spoken_of}
use Rattle.host_laws.proofs.Passive.{IsPassive, Passive, first-passive, at-passive, comes-passive, sends-passive, gives-passive, waits-passive, channel-passive, timed-passive}

-- ---- what is asked of the profile

abbrev pub IsToSend : Occurrence → Type 0
IsToSend (Comes pdu) = Unit {0}
IsToSend (Connects psm) = ⊥
IsToSend AsksFeatures = ⊥
IsToSend (Disconnects own) = ⊥
IsToSend (Sends own sdu) = Unit {0}
IsToSend (Gives pdu) = Unit {0}
IsToSend Fires = Unit {0}
IsToSend Tells = Unit {0}

-- ---- what it is told

-- of all requests, or of the end of a channel that was closed
abbrev pub is_lost : Bool → ChannelEvent → Bool
is_lost all event = cond all (is_loss event) (is_end_lost event)

abbrev pub any_lost : Bool → List ChannelEvent → Bool
any_lost all events = list_any (is_lost all) events

-- where only those ends count, nothing else is asked for
abbrev Fits : Bool → Channels → Type 0
Fits all v = all ≡ false → Passive v

neither : (a b : Bool) → (a || b) ≡ false → (a ≡ false) × (b ≡ false)
neither true b is = cc
neither false b is = (refl, is)

pub lost_parts : (all : Bool) (xs ys : List ChannelEvent) → any_lost all (xs ++ ys) ≡ false → (any_lost all xs ≡ false) × (any_lost all ys ≡ false)
lost_parts all xs ys none = neither (any_lost all xs) (any_lost all ys) (sym (list_any-append (is_lost all) xs ys) ∙ none)

pub lost_both : (all : Bool) (xs ys : List ChannelEvent) → any_lost all xs ≡ false → any_lost all ys ≡ false → any_lost all (xs ++ ys) ≡ false
lost_both all xs ys one other = list_any-append (is_lost all) xs ys ∙ (ap (λ b. b || any_lost all ys) one ∙ other)

-- that one thing is told which counts as lost
told_lost : (all : Bool) (before : List ChannelEvent) (event : ChannelEvent) → is_lost all event ≡ true → any_lost all (before ++ event ∷ []) ≡ false → ⊥
told_lost all before event lost none = let never : true ≡ false = sym lost ∙ (neither (is_lost all event) false (lost_parts all before (event ∷ []) none).1).0 in cc

-- what arose stays so until it is told
abbrev Grew : Bool → (v w : Channels) → Type 0
Grew all v w = any_lost all w.events ≡ false → any_lost all v.events ≡ false

module _ (all : Bool) where
  same_grew : (v w : Channels) → w.events ≡ v.events → Grew all v w
  same_grew v w same none = ap (any_lost all) (sym same) ∙ none

  more_grew : (v w : Channels) (more : List ChannelEvent) → w.events ≡ v.events ++ more → Grew all v w
  more_grew v w more is none = (lost_parts all v.events more (ap (any_lost all) (sym is) ∙ none)).0

  walks : (policy : Policy) → Walks policy Any (Grew all)
  walks policy = record {
    same = λ carrier. tt;
    still = λ v w held_is next_is events_are. same_grew v w events_are;
    tells = λ v w event held_is next_is events_are other. more_grew v w (event ∷ []) events_are;
    both = λ v u w first second none. first (second none);
    made = λ v w psm stage first held_is next_is events_are. same_grew v w events_are;
    moves = λ v w held after more moves. more_grew v w more moves.events_are;
  }

  channel_grew : (policy : Policy) (tries own : ℕ) (v : Channels) → Grew all v (fired_channel tries own v)
  channel_grew policy tries own v none =
      let between : Channels = times_held (held_at own v) tries v in
      timed-held policy Any (Grew all) (walks policy) v tries own (held_at own v) (λ machine open'. tt) refl (ended-held policy Any (Grew all) (walks policy) between tries own (held_at own between) refl none)

  rest_grew : (policy : Policy) (tries : ℕ) (owns : List ℕ) (v : Channels) → Grew all v (let after = times_channels tries owns v in times_features after.features tries after)
  rest_grew policy tries [] v none = features-timed policy Any (Grew all) (walks policy) tries v.features v none
  rest_grew policy tries (own ∷ owns) v none = channel_grew policy tries own v (rest_grew policy tries owns (fired_channel tries own v) none)

-- ---- what is spoken

abbrev pub AllSpoken : List Saying → Type 0
AllSpoken said = AllByRecursion (λ one. is_spoken one ≡ true) said

pub both_spoken : (xs ys : List Saying) → AllSpoken xs → AllSpoken ys → AllSpoken (xs ++ ys)
both_spoken [] ys one other = other
both_spoken (x ∷ xs) ys one other = (one.0, both_spoken xs ys one.1 other)

command_spoken : (command : Option Command) → AllSpoken (map spoken (option_to_list command))
command_spoken None = tt
command_spoken (Some command) = (refl, tt)

if_spoken : (b : Bool) (xs ys : List Saying) → AllSpoken xs → AllSpoken ys → AllSpoken (cond b xs ys)
if_spoken true xs ys one other = one
if_spoken false xs ys one other = other

pub asked_spoken : (v w : Channels) → AllSpoken (asked_between v w)
asked_spoken v w = if_spoken (eqb w.identifier v.identifier) [] (said_of (newest w.queue) w) tt (command_spoken _)

again_spoken : (errand : Errand) (v w : Channels) → AllSpoken (said_again errand v w)
again_spoken errand v w = if_spoken _ (said_of (Some errand) w) [] (command_spoken _) tt

exchanged_spoken : (one : Read) (reply : Option Command) (v : Channels) → AllSpoken (exchanged one reply v)
exchanged_spoken one reply v = if_spoken (can_say (option_map (λ (c : Command). c.content) reply) v) (sayings.Command Into one ∷ map spoken (option_to_list reply)) [] (refl, command_spoken reply) tt

with_all_spoken : (policy : Policy) (list : List Read) (v : Channels) → AllSpoken (said_with_all policy list v)
with_all_spoken policy [] v = tt
with_all_spoken policy (one ∷ list) v =
    let w : Channels = hears_command policy one v in
    both_spoken (said_with policy one v) (said_with_all policy list w)
    (both_spoken (exchanged one (reply_to policy one v) v) (asked_between v w) (exchanged_spoken one (reply_to policy one v) v) (asked_spoken v w)) (with_all_spoken policy list w)

firing_spoken : (own : ℕ) (v w : Channels) → AllSpoken (given_up own v w) → AllSpoken (said_on_firing own v w)
firing_spoken own v w left =
    both_spoken (said_again (errands.Connection own) v w) _ (again_spoken (errands.Connection own) v w)
    (both_spoken (said_again (errands.Configuration own) v w) _ (again_spoken (errands.Configuration own) v w)
    (both_spoken (said_again (errands.Disconnection own) v w) _ (again_spoken (errands.Disconnection own) v w)
    (both_spoken (asked_between v w) (given_up own v w) (asked_spoken v w) left)))

pub carrier_spoken : (carrier : Option Carrier) (peer : ℕ) (sdu : List ℕ) → AllSpoken (said_by_carrier carrier peer sdu)
carrier_spoken None peer sdu = tt
carrier_spoken (Some (Plain agreed None)) peer sdu = (refl, tt)
carrier_spoken (Some (Plain agreed (Some waiting))) peer sdu = tt
carrier_spoken (Some (Retransmitting machine)) peer sdu = tt

given_spoken : (given : Option Given) (pdu : List ℕ) → AllSpoken (said_as given pdu)
given_spoken None pdu = tt
given_spoken (Some (Signal command)) pdu = tt
given_spoken (Some (Whole peer sdu)) pdu = tt
given_spoken (Some (Framed peer frame)) pdu = (refl, tt)

none_spoken : (said : List Saying) → said ≡ [] → AllSpoken said
none_spoken said none = subst AllSpoken (sym none) tt

-- ---- the timer, at one channel

module _ (v : Channels) (held : Held) (at : find (has_own held.own) v.held ≡ Some held) where
  stays : (w : Channels) → w.held ≡ v.held → given_up held.own v w ≡ []
  stays w same = ap (λ hs. forgone_between (held_at held.own v) (find (has_own held.own) hs)) same ∙ still_held (held_at held.own v)

  goes_to : (w : Channels) (stage : Stage) → w.held ≡ map (in_place_of (staged held stage)) v.held → given_up held.own v w ≡ []
  goes_to w stage is =
      ap (λ hs. forgone_between (held_at held.own v) (find (has_own held.own) hs)) is
      ∙ (ap (forgone_between (held_at held.own v)) (found-placed (staged held stage) held v.held at) ∙ forgone_none (held_at held.own v) (staged held stage))

  -- a channel that is there is held on once it is closed
  closed_none : (stage : Stage) (reason : CloseReason) → is_some (setup_of stage) ≡ true → given_up held.own v (closes_at stage reason held v) ≡ []
  closed_none (Requested request) reason there = cc
  closed_none (Connected peer setup) reason there = goes_to (closes_at (Connected peer setup) reason held v) (Closing peer (new_request v) (has_fcs_by setup)) refl
  closed_none (Leaving peer setup request) reason there = goes_to (closes_at (Leaving peer setup request) reason held v) (Closing peer request (has_fcs_by setup)) refl
  closed_none (Closing peer request checked) reason there = cc
  closed_none (Crossed peer request) reason there = cc

  fired_none : (now : Fired) (errand : Errand) (spent : Channels → Channels) → given_up held.own v (spent v) ≡ [] → given_up held.own v (fires now errand spent v) ≡ []
  fired_none StillDue errand spent none = stays v refl
  fired_none OnceMore errand spent none = stays (queued (Ask errand) v) refl
  fired_none Spent errand spent none = none

  settled_none : (reason : Option ErtmReason) (machine : Ertm) (setup : Setup) → is_some (setup_of held.stage) ≡ true → given_up held.own v (settles_machine reason machine held setup v) ≡ []
  settled_none None machine setup there = let after : Setup = record setup { carrier = Some (Retransmitting machine) } in goes_to (to_setup held after v) (stage_with after held.stage) refl
  settled_none (Some reason) machine setup there = closed_none held.stage (reason_of reason) there

  carrier_none : (carrier : Option Carrier) (setup : Setup) → is_some (setup_of held.stage) ≡ true → given_up held.own v (times_carrier carrier held setup v) ≡ []
  carrier_none None setup there = stays v refl
  carrier_none (Some (Plain agreed waiting)) setup there = stays v refl
  carrier_none (Some (Retransmitting machine)) setup there = settled_none (timed machine).closed (timed machine) setup there

  setup_none : (own : Own) (tries : ℕ) (setup : Setup) → is_some (setup_of held.stage) ≡ true → given_up held.own v (times_setup own tries held setup v) ≡ []
  setup_none Unasked tries setup there = carrier_none setup.carrier setup there
  setup_none (Asking request options) tries setup there = fired_none (fired tries (errands.Configuration held.own) request v) (errands.Configuration held.own) (closes RetryLimit held) (closed_none held.stage RetryLimit there)
  setup_none Granted tries setup there = carrier_none setup.carrier setup there

  -- what is given up was given as often as may be, and that is told
  spent_spoken : (all : Bool) (now : Fired) (errand : Errand) (spent : Channels → Channels) → (any_lost all (spent v).events ≡ false → ⊥) → any_lost all (fires now errand spent v).events ≡ false → AllSpoken (given_up held.own v (fires now errand spent v))
  spent_spoken all StillDue errand spent never none = none_spoken (given_up held.own v v) (stays v refl)
  spent_spoken all OnceMore errand spent never none = none_spoken (given_up held.own v (queued (Ask errand) v)) (stays (queued (Ask errand) v) refl)
  spent_spoken all Spent errand spent never none = absurd (never none)

  closed_lost : (all : Bool) (stage : Stage) (request : Request) → held.stage ≡ stage → stage ≡ Requested request → (all ≡ false → IsPassive stage) → any_lost all (closes_at stage RetryLimit held v).events ≡ false → ⊥
  closed_lost true (Requested other) request is same passive none = told_lost true (gone held v).events (events.Closed held.own held.psm RetryLimit) refl none
  closed_lost false (Requested other) request is same passive none = passive refl
  closed_lost all (Connected peer setup) request is same passive none = cc
  closed_lost all (Leaving peer setup other) request is same passive none = cc
  closed_lost all (Closing peer other checked) request is same passive none = cc
  closed_lost all (Crossed peer other) request is same passive none = cc

  stage_spoken : (all : Bool) (stage : Stage) (tries : ℕ) → held.stage ≡ stage → (all ≡ false → IsPassive stage) → any_lost all (times_stage stage tries held v).events ≡ false → AllSpoken (given_up held.own v (times_stage stage tries held v))
  stage_spoken all (Requested request) tries is passive none =
      spent_spoken all (fired tries (errands.Connection held.own) request v) (errands.Connection held.own) (closes RetryLimit held)
      (λ lost. closed_lost all held.stage request refl is (λ ends. subst IsPassive (sym is) (passive ends)) lost) none
  stage_spoken all (Connected peer setup) tries is passive none = none_spoken (given_up held.own v (times_setup setup.own tries held setup v)) (setup_none setup.own tries setup (ap (λ s. is_some (setup_of s)) is))
  stage_spoken all (Leaving peer setup request) tries is passive none = none_spoken (given_up held.own v (times_setup setup.own tries held setup v)) (setup_none setup.own tries setup (ap (λ s. is_some (setup_of s)) is))
  stage_spoken all (Closing peer request checked) tries is passive none = none_spoken (given_up held.own v v) (stays v refl)
  stage_spoken all (Crossed peer request) tries is passive none = none_spoken (given_up held.own v v) (stays v refl)

  -- the end of it
  ended_lost : (all : Bool) (stage : Stage) (peer : ℕ) (setup : Setup) (request : Request) → stage ≡ Leaving peer setup request → (all ≡ false → IsPassive stage) → any_lost all (ends_at stage RetryLimit held v).events ≡ false → ⊥
  ended_lost all (Requested other) peer setup request same passive none = cc
  ended_lost all (Connected at after) peer setup request same passive none = cc
  ended_lost true (Leaving at after other) peer setup request same passive none = told_lost true (gone held v).events (events.Closed held.own held.psm RetryLimit) refl none
  ended_lost false (Leaving at after other) peer setup request same passive none = passive refl
  ended_lost all (Closing at other checked) peer setup request same passive none = cc
  ended_lost all (Crossed at other) peer setup request same passive none = cc

  loses_lost : (all : Bool) → any_lost all (loses_end held v).events ≡ false → ⊥
  loses_lost true none = told_lost true (ends RetryLimit held v).events (events.DisconnectLost held.own) refl none
  loses_lost false none = told_lost false (ends RetryLimit held v).events (events.DisconnectLost held.own) refl none

  end_spoken : (all : Bool) (stage : Stage) (tries : ℕ) → held.stage ≡ stage → (all ≡ false → IsPassive stage) → any_lost all (times_end_at stage tries held v).events ≡ false → AllSpoken (given_up held.own v (times_end_at stage tries held v))
  end_spoken all (Requested request) tries is passive none = none_spoken (given_up held.own v v) (stays v refl)
  end_spoken all (Connected peer setup) tries is passive none = none_spoken (given_up held.own v v) (stays v refl)
  end_spoken all (Leaving peer setup request) tries is passive none =
      spent_spoken all (fired tries (errands.Disconnection held.own) request v) (errands.Disconnection held.own) (ends RetryLimit held)
      (λ lost. ended_lost all held.stage peer setup request is (λ ends. subst IsPassive (sym is) (passive ends)) lost) none
  end_spoken all (Closing peer request checked) tries is passive none = spent_spoken all (fired tries (errands.Disconnection held.own) request v) (errands.Disconnection held.own) (loses_end held) (loses_lost all) none
  end_spoken all (Crossed peer request) tries is passive none = spent_spoken all (fired tries (errands.Disconnection held.own) request v) (errands.Disconnection held.own) (loses_end held) (loses_lost all) none

waits_spoken : (all : Bool) (own tries : ℕ) (v : Channels) (found : Option Held) → find (has_own own) v.held ≡ found → Fits all v → any_lost all (times_held found tries v).events ≡ false → AllSpoken (given_up own v (times_held found tries v))
waits_spoken all own tries v None is fits none = none_spoken (given_up own v v) (still_held (held_at own v))
waits_spoken all own tries v (Some held) is fits none =
    let same : held.own ≡ own = found-has own_of own v.held held is in
    subst (λ n. AllSpoken (given_up n v (times_held (Some held) tries v))) same (stage_spoken v held (ap (λ n. find (has_own n) v.held) same ∙ is) all held.stage tries refl (λ ends. at-passive own v held (fits ends) is) none)

ends_spoken : (all : Bool) (own tries : ℕ) (v : Channels) (found : Option Held) → find (has_own own) v.held ≡ found → Fits all v → any_lost all (times_end found tries v).events ≡ false → AllSpoken (given_up own v (times_end found tries v))
ends_spoken all own tries v None is fits none = none_spoken (given_up own v v) (still_held (held_at own v))
ends_spoken all own tries v (Some held) is fits none =
    let same : held.own ≡ own = found-has own_of own v.held held is in
    subst (λ n. AllSpoken (given_up n v (times_end (Some held) tries v))) same (end_spoken v held (ap (λ n. find (has_own n) v.held) same ∙ is) all held.stage tries refl (λ ends. at-passive own v held (fits ends) is) none)

-- ---- the timer

channel_spoken : (all : Bool) (policy : Policy) (tries own : ℕ) (v : Channels) → Fits all v → any_lost all (fired_channel tries own v).events ≡ false → AllSpoken (said_by_channel tries own v)
channel_spoken all policy tries own v fits none =
    let between : Channels = times_held (held_at own v) tries v in
    let after : Channels = times_end (held_at own between) tries between in
    let mid = ended-held policy Any (Grew all) (walks all policy) between tries own (held_at own between) refl none in
    both_spoken (said_on_firing own v between) (said_on_firing own between after)
    (firing_spoken own v between (waits_spoken all own tries v (held_at own v) refl fits mid))
    (firing_spoken own between after (ends_spoken all own tries between (held_at own between) refl (λ ends. waits-passive own tries v (fits ends)) none))

features_spoken : (all : Bool) (tries : ℕ) (v : Channels) (asked : Option Request) → v.features ≡ asked → Fits all v → any_lost all (times_features asked tries v).events ≡ false → AllSpoken (features_given_up asked (times_features asked tries v).features)
features_spoken all tries v None is fits none = tt
features_spoken all tries v (Some request) is fits none = by all (fired tries errands.Features request v) fits none
  where
    kept : (w : Channels) → w.features ≡ Some request → AllSpoken (features_given_up (Some request) w.features)
    kept w same = subst (λ (after : Option Request). AllSpoken (features_given_up (Some request) after)) (sym same) tt

    by : (some : Bool) (now : Fired) → Fits some v → any_lost some (fires now errands.Features loses_features v).events ≡ false → AllSpoken (features_given_up (Some request) (fires now errands.Features loses_features v).features)
    by some StillDue fits none = kept v is
    by some OnceMore fits none = kept (queued (Ask errands.Features) v) is
    by true Spent fits none = absurd (told_lost true v.events events.FeaturesLost refl none)
    by false Spent fits none = let never : Some request ≡ None = sym is ∙ (fits refl).none_asked in cc

fired_spoken : (all : Bool) (policy : Policy) (tries : ℕ) (owns : List ℕ) (v : Channels) → Fits all v → any_lost all (let after = times_channels tries owns v in times_features after.features tries after).events ≡ false → AllSpoken (said_by_channels tries owns v)
fired_spoken all policy tries [] v fits none =
    let after : Channels = times_features v.features tries v in
    both_spoken (said_again errands.Features v after) (features_given_up v.features after.features) (again_spoken errands.Features v after) (features_spoken all tries v v.features refl fits none)
fired_spoken all policy tries (own ∷ owns) v fits none =
    let next : Channels = fired_channel tries own v in
    both_spoken (said_by_channel tries own v) (said_by_channels tries owns next) (channel_spoken all policy tries own v fits (rest_grew all policy tries owns next none))
    (fired_spoken all policy tries owns next (λ ends. channel-passive own tries v (fits ends)) none)

-- ---- the end of a channel is asked for

pub left_spoken : (v : Channels) (own : ℕ) (found : Option Held) → held_at own v ≡ found → IsThere found → AllSpoken (given_up own v (disconnected_held found v))
left_spoken v own None is there = none_spoken (given_up own v v) (still_held (held_at own v))
left_spoken v own (Some held) is there =
    let same : held.own ≡ own = found-has own_of own v.held held is in
    subst (λ n. AllSpoken (given_up n v (disconnected_held (Some held) v))) same (by (ap (λ n. find (has_own n) v.held) same ∙ is) held.stage refl there)
  where
    by : find (has_own held.own) v.held ≡ Some held → (stage : Stage) → held.stage ≡ stage → IsMoreThanAsked stage → AllSpoken (given_up held.own v (disconnected_at stage held v))
    by at (Requested request) at_stage there = absurd there
    by at (Connected peer setup) at_stage there =
        let w = disconnected_at (Connected peer setup) held v in none_spoken (given_up held.own v w) (goes_to v held at w (Leaving peer setup (new_request v)) refl)
    by at (Leaving peer setup request) at_stage there = none_spoken (given_up held.own v v) (stays v held at v refl)
    by at (Closing peer request checked) at_stage there = none_spoken (given_up held.own v v) (stays v held at v refl)
    by at (Crossed peer request) at_stage there = none_spoken (given_up held.own v v) (stays v held at v refl)

-- ---- all that happens

-- what is asked where only the ends of closed channels count
abbrev Suits : Bool → Occurrence → Type 0
Suits all one = all ≡ false → IsToSend one

-- what it says, where nothing is lost that is to be told
pub said_spoken : (all : Bool) (policy : Policy) (one : Occurrence) (v : Channels) → TakesNoneBack one v → Fits all v → any_lost all (value_after policy one v).events ≡ false → AllSpoken (said_in policy one v)
said_spoken all policy (Comes pdu) v back fits none =
    if_spoken (eqb (channel_of pdu) 0x0001) (said_with_all policy (answers (drop 4 pdu)) v) (Carried Into pdu ∷ asked_between v (takes (channel_of pdu) pdu v))
    (with_all_spoken policy (answers (drop 4 pdu)) v) (refl, asked_spoken v (takes (channel_of pdu) pdu v))
said_spoken all policy (Connects psm) v back fits none = asked_spoken v (connected psm v)
said_spoken all policy AsksFeatures v back fits none = asked_spoken v (asks_features v)
said_spoken all policy (Disconnects own) v back fits none =
    both_spoken (asked_between v (disconnected own v)) (given_up own v (disconnected own v)) (asked_spoken v (disconnected own v)) (left_spoken v own (held_at own v) refl back)
said_spoken all policy (Sends own sdu) v back fits none = carrier_spoken (carrier_at own v) (peer_at (held_at own v)) sdu
said_spoken all policy (Gives pdu) v back fits none = given_spoken (next_given v) pdu
said_spoken all policy Fires v back fits none = fired_spoken all policy policy.tries (map (λ held. held.own) v.held) v fits none
said_spoken all policy Tells v back fits none = tt

after_passive : (policy : Policy) (one : Occurrence) (v : Channels) → IsToSend one → Passive v → Passive (value_after policy one v)
after_passive policy (Comes pdu) v to_send passive = comes-passive policy pdu v passive
after_passive policy (Connects psm) v to_send passive = absurd to_send
after_passive policy AsksFeatures v to_send passive = absurd to_send
after_passive policy (Disconnects own) v to_send passive = absurd to_send
after_passive policy (Sends own sdu) v to_send passive = sends-passive own sdu v passive
after_passive policy (Gives pdu) v to_send passive = gives-passive v passive
after_passive policy Fires v to_send passive = timed-passive policy v passive
after_passive policy Tells v to_send passive = record { held = passive.held; none_asked = passive.none_asked }

first_left : (list : List ChannelEvent) → option_to_list (slice_get list 0) ++ drop 1 list ≡ list
first_left [] = refl
first_left (event ∷ list) = refl

-- what arose before, and what is to be told then
abbrev Arose : Bool → Policy → Run → Occurrence → Type 0
Arose all policy run one = any_lost all (arisen (run_on policy run one)) ≡ false → (any_lost all (arisen run) ≡ false) × (any_lost all (value_after policy one run.value).events ≡ false)

arose : (all : Bool) (policy : Policy) (run : Run) (one : Occurrence) → Distinct own_of run.value.held → Arose all policy run one
arose all policy run one lone = by one
  where
    v : Channels
    v = run.value

    along : (other : Occurrence) → told_in other v ≡ [] → Grew all v (value_after policy other v) → Arose all policy run other
    along other silent grew none =
        let (told, waits) = lost_parts all (run.told ++ told_in other v) (value_after policy other v).events none in
        (lost_both all run.told v.events (lost_parts all run.told (told_in other v) told).0 (grew waits), waits)

    comes : (pdu : List ℕ) (signals : Bool) → Grew all v (cond signals (hears_commands policy (answers (drop 4 pdu)) v) (takes (channel_of pdu) pdu v))
    comes pdu true = commands-go policy Any (Grew all) (walks all policy) (answers (drop 4 pdu)) v
    comes pdu false = takes-goes policy Any (Grew all) (walks all policy) (channel_of pdu) pdu v (λ machine open'. tt)

    by : (other : Occurrence) → Arose all policy run other
    by (Comes pdu) = along (Comes pdu) refl (comes pdu (eqb (channel_of pdu) 0x0001))
    by (Connects psm) = along (Connects psm) refl (connected-goes policy Any (Grew all) (walks all policy) psm v)
    by AsksFeatures = along AsksFeatures refl (asks-features-goes policy Any (Grew all) (walks all policy) v)
    by (Disconnects own) = along (Disconnects own) refl (disconnected-goes policy Any (Grew all) (walks all policy) own v)
    by (Sends own sdu) = along (Sends own sdu) refl (sends-goes policy Any (Grew all) (walks all policy) own sdu v (λ machine. tt))
    by (Gives pdu) = along (Gives pdu) refl (given-goes policy Any (Grew all) (walks all policy) v (λ carrier. tt) lone)
    by Fires = along Fires refl (rest_grew all policy policy.tries (map (λ held. held.own) v.held) v)
    by Tells = λ none.
        let (told, waits) = lost_parts all (run.told ++ told_in Tells v) (value_after policy Tells v).events none in
        let (earlier, first) = lost_parts all run.told (told_in Tells v) told in
        (lost_both all run.told v.events earlier (ap (any_lost all) (sym (first_left v.events)) ∙ lost_both all (told_in Tells v) (drop 1 v.events) first waits), waits)

-- where no loss arose it gave nothing up
record Keeps (all : Bool) (run : Run) : Type 0 where
  fits : Fits all run.value
  spoken : any_lost all (arisen run) ≡ false → AllSpoken run.said

step_keeps : (all : Bool) (policy : Policy) (run : Run) (one : Occurrence) → Distinct own_of run.value.held → TakesNoneBack one run.value → Suits all one → Keeps all run → Keeps all (run_on policy run one)
step_keeps all policy run one lone back suits keeps = record {
  fits = λ ends. after_passive policy one run.value (suits ends) (keeps.fits ends);
  spoken = λ none.
      let (earlier, now) = arose all policy run one lone none in
      both_spoken run.said (said_in policy one run.value) (keeps.spoken earlier) (said_spoken all policy one run.value back keeps.fits now);
}

all_keep : (all : Bool) (policy : Policy) (past list : List Occurrence) → EachAfter (λ front one. TakesNoneBack one (run_of policy front).value × Suits all one) past list → Keeps all (run_of policy past) → Keeps all (run_of policy (past ++ list))
all_keep all policy past [] each keeps = subst (λ (l : List Occurrence). Keeps all (run_of policy l)) (sym (append-nil past)) keeps
all_keep all policy past (one ∷ list) ((back, suits), later) keeps =
    let next = subst (Keeps all) (sym (fold-append (run_on policy) new_link past (one ∷ []))) (step_keeps all policy (run_of policy past) one (all-sound policy past).core.lone back suits keeps) in
    subst (λ (l : List Occurrence). Keeps all (run_of policy l)) (append_assoc past (one ∷ []) list) (all_keep all policy (past ++ one ∷ []) list later next)

pub all_passed : (said : List Saying) → AllSpoken said → spoken_of said ≡ said
all_passed [] spoken = refl
all_passed (one ∷ said) spoken = ap (λ b. cond b (one ∷ filter is_spoken said) (filter is_spoken said)) spoken.0 ∙ ap (λ (rest : List Saying). one ∷ rest) (all_passed said spoken.1)

nothing_kept : (all : Bool) (policy : Policy) (list : List Occurrence) → EachAfter (λ front one. TakesNoneBack one (run_of policy front).value × Suits all one) [] list → any_lost all (arisen (run_of policy list)) ≡ false → GivesNothingUp policy list
nothing_kept all policy list each none =
    let first : Keeps all new_link = record { fits = λ ends. first-passive; spoken = λ never. tt } in
    all_passed (run_of policy list).said ((all_keep all policy [] list each first).spoken none)

-- ---- of all hosts, and of those that only send

each_so : (policy : Policy) (past list : List Occurrence) → EachAfter (λ front one. TakesNoneBack one (run_of policy front).value) past list → EachAfter (λ front one. TakesNoneBack one (run_of policy front).value × Suits true one) past list
each_so policy past [] each = tt
each_so policy past (one ∷ list) (now, later) = ((now, λ ends. cc), each_so policy (past ++ one ∷ []) list later)

pub losses_are_told : LossesAreTold
losses_are_told policy list back none = nothing_kept true policy list (each_so policy [] list back) none

sends_back : (one : Occurrence) (v : Channels) → IsToSend one → TakesNoneBack one v
sends_back (Comes pdu) v to_send = tt
sends_back (Connects psm) v to_send = tt
sends_back AsksFeatures v to_send = tt
sends_back (Disconnects own) v to_send = absurd to_send
sends_back (Sends own sdu) v to_send = tt
sends_back (Gives pdu) v to_send = tt
sends_back Fires v to_send = tt
sends_back Tells v to_send = tt

each_sends : (policy : Policy) (past list : List Occurrence) → AllByRecursion IsToSend list → EachAfter (λ front one. TakesNoneBack one (run_of policy front).value × Suits false one) past list
each_sends policy past [] all = tt
each_sends policy past (one ∷ list) all = ((sends_back one (run_of policy past).value all.0, λ ends. all.0), each_sends policy (past ++ one ∷ []) list all.1)

pub nothing-given_up : (policy : Policy) (list : List Occurrence) → AllByRecursion IsToSend list → any_lost false (arisen (run_of policy list)) ≡ false → GivesNothingUp policy list
nothing-given_up policy list all none = nothing_kept false policy list (each_sends policy [] list all) none
