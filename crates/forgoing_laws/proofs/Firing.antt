-- A host gives up a request for an end only where its timer finds that spent.
use Rattle.std.proofs.Common.{◌≡◌, ℕ, ◌<◌, ◌≤◌, List, [], ◌∷◌, ◌++◌, map, drop, Bool, true, false, cond, eqb, leb, Option, Some, None, refl, sym, ap, subst, ◌∙◌, ◌⊎◌, inl, inr, arith}
use Rattle.std.specs.Prelude.{find, option_map, option_to_list}
use Rattle.std.proofs.lemmas.Bool.{leb-true}
use Rattle.channel_laws.specs.acl_fragments.specs.Pieces.{channel_of}
use Rattle.channel_laws.specs.capture.specs.declared.flow.Flow.TheVariants.{Into}
use Rattle.channel_laws.specs.ertm_model.specs.Giving.{timed}
use Rattle.channel_laws.specs.ertm_model.specs.Value.{Ertm}
use Rattle.channel_laws.specs.ertm_model.specs.declared.reason.ErtmReason.{ErtmReason}
use Rattle.channel_laws.specs.l2cap_signal.specs.Commands.{Command}
use Rattle.channel_laws.specs.l2cap_signal.specs.Reading.{Answer as Read, answers}
use Rattle.channel_laws.specs.link_talk.specs.Sayings.{Saying, Carried, GaveUp}
use Rattle.channel_laws.specs.link_talk.specs.Sayings as sayings
use Rattle.channel_laws.specs.channel_model.specs.declared.errand.Errand.{Errand}
use Rattle.channel_laws.specs.channel_model.specs.declared.errand.Errand.TheVariants as errands
use Rattle.channel_laws.specs.channel_model.specs.declared.event.CloseReason.TheVariants.{RetryLimit}
use Rattle.channel_laws.specs.channel_model.specs.Asking.{StillDue, OnceMore, Spent}
use Rattle.channel_laws.specs.channel_model.specs.Calls.{carrier_at, connected, asks_features, disconnected, disconnected_at, disconnected_held}
use Rattle.channel_laws.specs.channel_model.specs.Carrying.{takes, settles_machine}
use Rattle.channel_laws.specs.channel_model.specs.Changing.{has_own, held_at, setup_of, is_due}
use Rattle.channel_laws.specs.channel_model.specs.Closing.{closes, closes_at, ends}
use Rattle.channel_laws.specs.channel_model.specs.Following.{can_say}
use Rattle.channel_laws.specs.channel_model.specs.Giving.{Given, Signal, Whole, Framed, next_given}
use Rattle.channel_laws.specs.channel_model.specs.Hearing.{hears_command}
use Rattle.channel_laws.specs.channel_model.specs.Policies.{Policy}
use Rattle.channel_laws.specs.channel_model.specs.Timing.{fires, times, times_carrier, times_setup, times_stage, times_held, loses_end, times_end_at, times_end, times_features}
use Rattle.channel_laws.specs.channel_model.specs.Value.{Request, Own, Unasked, Asking, Granted, Carrier, Plain, Retransmitting, Setup, Stage, Requested, Connected, Leaving, Closing, Crossed, Held, Channels}
use Rattle.channel_laws.specs.channel_model.proofs.Going.{staged}
use Rattle.channel_laws.specs.channel_model.proofs.Lookups.{own_of, found-has, found-placed}
use Rattle.channel_laws.specs.channel_model.proofs.Walking.{found-own}
use Rattle.channel_laws.specs.OwnTalk.{spoken, reply_to, exchanged, newest, said_of, asked_between, said_with, said_with_all}
use Rattle.channel_laws.specs.Runs.{Occurrence, Comes, Connects, AsksFeatures, Disconnects, Sends, Gives, Fires, Tells, forgone_at, forgone_between, given_up, features_given_up, said_again, said_on_firing, said_by_channel, fired_channel, said_by_channels, said_by_carrier, said_as, said_in}
use Rattle.channel_laws.specs.Signals.{StandsIn}
use Rattle.channel_laws.specs.Tries.{request_of, request_at, for_end, copies}
use Rattle.channel_laws.proofs.Giving.{still_held}
use Rattle.channel_laws.proofs.Saying.{stands-either}
use Rattle.channel_laws.proofs.Sparing.{closes-tame, ends-tame, settles-tame}
use Rattle.channel_laws.proofs.Trying.{By, Tame, both-tame, still-tame}
use Rattle.forgoing_laws.specs.Forgone.{IsUnspent, ForgoesNoEnd}

-- ---- what is said by word of a command is none given up

no_both : (xs ys : List Saying) → ForgoesNoEnd xs → ForgoesNoEnd ys → ForgoesNoEnd (xs ++ ys)
no_both xs ys one other own peer is = by (stands-either (GaveUp (sayings.Disconnection own peer)) xs ys is)
  where
    by : StandsIn (GaveUp (sayings.Disconnection own peer)) xs ⊎ StandsIn (GaveUp (sayings.Disconnection own peer)) ys → ⊥
    by (inl left) = one own peer left
    by (inr right) = other own peer right

no_nothing : ForgoesNoEnd []
no_nothing own peer is = elim is [ ]

no_spoken : (command : Option Command) → ForgoesNoEnd (map spoken (option_to_list command))
no_spoken None own peer is = elim is [ ]
no_spoken (Some command) own peer (inl same) = cc
no_spoken (Some command) own peer (inr none) = elim none [ ]

no_carried : (flow : _) (pdu : List ℕ) → ForgoesNoEnd (Carried flow pdu ∷ [])
no_carried flow pdu own peer (inl same) = cc
no_carried flow pdu own peer (inr none) = elim none [ ]

no_said : (errand : Option Errand) (w : Channels) → ForgoesNoEnd (said_of errand w)
no_said errand w = no_spoken _

no_if : (b : Bool) (said : List Saying) → ForgoesNoEnd said → ForgoesNoEnd (cond b [] said)
no_if true said none = no_nothing
no_if false said none = none

no_asked : (v w : Channels) → ForgoesNoEnd (asked_between v w)
no_asked v w = no_if (eqb w.identifier v.identifier) (said_of (newest w.queue) w) (no_said (newest w.queue) w)

no_again : (errand : Errand) (v w : Channels) → ForgoesNoEnd (said_again errand v w)
no_again errand v w = by _
  where
    by : (b : Bool) → ForgoesNoEnd (cond b (said_of (Some errand) w) [])
    by true = no_said (Some errand) w
    by false = no_nothing

no_exchanged : (one : Read) (reply : Option Command) (v : Channels) → ForgoesNoEnd (exchanged one reply v)
no_exchanged one reply v = by (can_say (option_map (λ (c : Command). c.content) reply) v)
  where
    heard : ForgoesNoEnd (sayings.Command Into one ∷ map spoken (option_to_list reply))
    heard own peer (inl same) = cc
    heard own peer (inr later) = no_spoken reply own peer later

    by : (b : Bool) → ForgoesNoEnd (cond b (sayings.Command Into one ∷ map spoken (option_to_list reply)) [])
    by true = heard
    by false = no_nothing

no_commands : (policy : Policy) (list : List Read) (v : Channels) → ForgoesNoEnd (said_with_all policy list v)
no_commands policy [] v = no_nothing
no_commands policy (one ∷ list) v =
    let w : Channels = hears_command policy one v in
    no_both (said_with policy one v) (said_with_all policy list w) (no_both (exchanged one (reply_to policy one v) v) (asked_between v w) (no_exchanged one (reply_to policy one v) v) (no_asked v w)) (no_commands policy list w)

no_sent : (carrier : Option Carrier) (peer : ℕ) (sdu : List ℕ) → ForgoesNoEnd (said_by_carrier carrier peer sdu)
no_sent None peer sdu = no_nothing
no_sent (Some (Plain agreed None)) peer sdu = no_carried _ _
no_sent (Some (Plain agreed (Some waiting))) peer sdu = no_nothing
no_sent (Some (Retransmitting machine)) peer sdu = no_nothing

no_given : (given : Option Given) (pdu : List ℕ) → ForgoesNoEnd (said_as given pdu)
no_given None pdu = no_nothing
no_given (Some (Signal command)) pdu = no_nothing
no_given (Some (Whole other sdu)) pdu = no_nothing
no_given (Some (Framed other frame)) pdu = no_carried _ _

-- what is said of a firing, but for what is given up
no_fired : (own : ℕ) (v w : Channels) → ForgoesNoEnd (given_up own v w) → ForgoesNoEnd (said_on_firing own v w)
no_fired own v w none =
    no_both (said_again (errands.Connection own) v w) _ (no_again (errands.Connection own) v w)
    (no_both (said_again (errands.Configuration own) v w) _ (no_again (errands.Configuration own) v w)
    (no_both (said_again (errands.Disconnection own) v w) _ (no_again (errands.Disconnection own) v w) (no_both (asked_between v w) (given_up own v w) (no_asked v w) none)))

-- a channel that is there still is not given up
no_kept : (found : Option Held) (other : Held) → ForgoesNoEnd (forgone_between found (Some other))
no_kept None other = no_nothing
no_kept (Some held) other = no_nothing

no_same : (found : Option Held) → ForgoesNoEnd (forgone_between found found)
no_same found = subst ForgoesNoEnd (sym (still_held found)) no_nothing

no_call : (identifier own : ℕ) → ForgoesNoEnd (GaveUp (sayings.Connection identifier own) ∷ [])
no_call identifier own n peer (inl same) = cc
no_call identifier own n peer (inr none) = elim none [ ]

-- one that is only asked for, or whose end the host did not ask for, is no end given up
no_early : (held : Held) (stage : Stage) (after : Option Held) → held.stage ≡ stage → for_end stage ≡ None → ForgoesNoEnd (forgone_between (Some held) after)
no_early held stage (Some other) is none = no_nothing
no_early held (Requested request) None is none = subst (λ (s : Stage). ForgoesNoEnd (forgone_at s held.own)) (sym is) (no_call request.identifier held.own)
no_early held (Connected peer setup) None is none = subst (λ (s : Stage). ForgoesNoEnd (forgone_at s held.own)) (sym is) no_nothing
no_early held (Leaving peer setup request) None is none = cc
no_early held (Closing peer request checked) None is none = cc
no_early held (Crossed peer request) None is none = cc

-- ---- what a channel waits for

-- its end, that the host asked for, goes on
closing_stays : (v : Channels) (held : Held) (peer : ℕ) (setup : Setup) (request : Request) → held.stage ≡ Leaving peer setup request → find (has_own held.own) v.held ≡ Some held → (reason : _) → (other : Held) × (held_at held.own (closes reason held v) ≡ Some other)
closing_stays v held peer setup request is found reason = by held.stage is
  where
    by : (stage : Stage) → stage ≡ Leaving peer setup request → (other : Held) × (held_at held.own (closes_at stage reason held v) ≡ Some other)
    by (Requested r) same = cc
    by (Connected p s) same = cc
    by (Leaving p s r) same = (_, found-placed (staged held (Closing p r _)) held v.held found)
    by (Closing p r c) same = cc
    by (Crossed p r) same = cc

settles_stays : (v : Channels) (closed : Option ErtmReason) (machine : Ertm) (held : Held) (peer : ℕ) (setup before : Setup) (request : Request) → held.stage ≡ Leaving peer before request → find (has_own held.own) v.held ≡ Some held → (other : Held) × (held_at held.own (settles_machine closed machine held setup v) ≡ Some other)
settles_stays v None machine held peer setup before request is found = (_, found-placed (staged held _) held v.held found)
settles_stays v (Some reason) machine held peer setup before request is found = closing_stays v held peer before request is found _

carrier_stays : (v : Channels) (carrier : Option Carrier) (held : Held) (peer : ℕ) (setup : Setup) (request : Request) → held.stage ≡ Leaving peer setup request → find (has_own held.own) v.held ≡ Some held → (other : Held) × (held_at held.own (times_carrier carrier held setup v) ≡ Some other)
carrier_stays v None held peer setup request is found = (held, found)
carrier_stays v (Some (Plain agreed waiting)) held peer setup request is found = (held, found)
carrier_stays v (Some (Retransmitting machine)) held peer setup request is found = settles_stays v (timed machine).closed (timed machine) held peer setup setup request is found

setup_stays : (v : Channels) (tries : ℕ) (own : Own) (held : Held) (peer : ℕ) (setup : Setup) (request : Request) → held.stage ≡ Leaving peer setup request → find (has_own held.own) v.held ≡ Some held → (other : Held) × (held_at held.own (times_setup own tries held setup v) ≡ Some other)
setup_stays v tries Unasked held peer setup request is found = carrier_stays v setup.carrier held peer setup request is found
setup_stays v tries (Asking asked options) held peer setup request is found = by (is_due (errands.Configuration held.own) v) (leb tries asked.given)
  where
    by : (due most : Bool) → (other : Held) × (held_at held.own (fires (cond due StillDue (cond most Spent OnceMore)) (errands.Configuration held.own) (closes RetryLimit held) v) ≡ Some other)
    by true most = (held, found)
    by false true = closing_stays v held peer setup request is found RetryLimit
    by false false = (held, found)
setup_stays v tries Granted held peer setup request is found = carrier_stays v setup.carrier held peer setup request is found

no_waiting : (v : Channels) (tries own : ℕ) → ForgoesNoEnd (given_up own v (times_held (held_at own v) tries v))
no_waiting v tries own = by (held_at own v) refl
  where
    staged_so : (held : Held) (stage : Stage) → held.stage ≡ stage → held_at own v ≡ Some held → ForgoesNoEnd (forgone_between (Some held) (held_at own (times_stage stage tries held v)))
    staged_so held (Requested request) is at = no_early held (Requested request) _ is refl
    staged_so held (Connected peer setup) is at = no_early held (Connected peer setup) _ is refl
    staged_so held (Leaving peer setup request) is at =
        let (other, there) = setup_stays v tries setup.own held peer setup request is (found-own own v held at) in
        subst (λ (h : Option Held). ForgoesNoEnd (forgone_between (Some held) h)) (sym (ap (λ n. held_at n (times_stage (Leaving peer setup request) tries held v)) (sym (found-has own_of own v.held held at)) ∙ there)) (no_kept (Some held) other)
    staged_so held (Closing peer request checked) is at = subst (λ (h : Option Held). ForgoesNoEnd (forgone_between (Some held) h)) (sym at) (no_same (Some held))
    staged_so held (Crossed peer request) is at = subst (λ (h : Option Held). ForgoesNoEnd (forgone_between (Some held) h)) (sym at) (no_same (Some held))

    by : (found : Option Held) → held_at own v ≡ found → ForgoesNoEnd (forgone_between found (held_at own (times_held found tries v)))
    by None at = no_nothing
    by (Some held) at = staged_so held held.stage refl at

-- ---- its end

module _ (tries : ℕ) (some : 1 ≤ tries) where
  -- each request for an end was given less often than the host tries
  abbrev pub Below : Channels → Type 0
  Below v = (own : ℕ) → IsUnspent tries (errands.Disconnection own) v

  below_tame : (v w : Channels) → Tame v w → Below v → Below w
  below_tame v w tame below own r is = by (tame (errands.Disconnection own) r is)
    where
      by : By (copies (errands.Disconnection own) w.queue) (copies (errands.Disconnection own) v.queue) (request_of (errands.Disconnection own) v) r → r.given < tries
      by (inl (none, few)) = omega (arith, none, some)
      by (inr (was, less)) = below own r was

  below_times : (v : Channels) (errand : Errand) (request : Request) (spent : Channels → Channels) → Tame v (spent v) → Below v → Below (times tries errand request spent v)
  below_times v errand request spent tame below = by (is_due errand v) (leb tries request.given)
    where
      by : (due most : Bool) → Below (fires (cond due StillDue (cond most Spent OnceMore)) errand spent v)
      by true most = below
      by false true = below_tame v (spent v) tame below
      by false false = λ own r is. below own r is

  below_carrier : (v : Channels) (carrier : Option Carrier) (held : Held) (setup : Setup) → find (has_own held.own) v.held ≡ Some held → setup_of held.stage ≡ Some setup → Below v → Below (times_carrier carrier held setup v)
  below_carrier v None held setup found is below = below
  below_carrier v (Some (Plain agreed waiting)) held setup found is below = below
  below_carrier v (Some (Retransmitting machine)) held setup found is below = below_tame v (times_carrier (Some (Retransmitting machine)) held setup v) (settles-tame v (timed machine).closed (timed machine) held setup found is) below

  below_setup : (v : Channels) (own : Own) (held : Held) (setup : Setup) → find (has_own held.own) v.held ≡ Some held → setup_of held.stage ≡ Some setup → Below v → Below (times_setup own tries held setup v)
  below_setup v Unasked held setup found is below = below_carrier v setup.carrier held setup found is below
  below_setup v (Asking request options) held setup found is below = below_times v (errands.Configuration held.own) request (closes RetryLimit held) (closes-tame v held RetryLimit found) below
  below_setup v Granted held setup found is below = below_carrier v setup.carrier held setup found is below

  below_stage : (v : Channels) (held : Held) (stage : Stage) → held.stage ≡ stage → find (has_own held.own) v.held ≡ Some held → Below v → Below (times_stage stage tries held v)
  below_stage v held (Requested request) is found below = below_times v (errands.Connection held.own) request (closes RetryLimit held) (closes-tame v held RetryLimit found) below
  below_stage v held (Connected peer setup) is found below = below_setup v setup.own held setup found (ap setup_of is) below
  below_stage v held (Leaving peer setup request) is found below = below_setup v setup.own held setup found (ap setup_of is) below
  below_stage v held (Closing peer request checked) is found below = below
  below_stage v held (Crossed peer request) is found below = below

  below_held : (v : Channels) (own : ℕ) → Below v → Below (times_held (held_at own v) tries v)
  below_held v own below = by (held_at own v) refl
    where
      by : (found : Option Held) → held_at own v ≡ found → Below (times_held found tries v)
      by None at = below
      by (Some held) at = below_stage v held held.stage refl (found-own own v held at) below

  loses_tame : (v : Channels) (held : Held) → Tame v (loses_end held v)
  loses_tame v held = let u : Channels = ends RetryLimit held v in both-tame v u (loses_end held v) (ends-tame v held RetryLimit held.stage) (still-tame u (loses_end held v) refl refl (λ e. omega arith))

  below_end_at : (v : Channels) (held : Held) (stage : Stage) → Below v → Below (times_end_at stage tries held v)
  below_end_at v held (Requested request) below = below
  below_end_at v held (Connected peer setup) below = below
  below_end_at v held (Leaving peer setup request) below = below_times v (errands.Disconnection held.own) request (ends RetryLimit held) (ends-tame v held RetryLimit held.stage) below
  below_end_at v held (Closing peer request checked) below = below_times v (errands.Disconnection held.own) request (loses_end held) (loses_tame v held) below
  below_end_at v held (Crossed peer request) below = below_times v (errands.Disconnection held.own) request (loses_end held) (loses_tame v held) below

  below_end : (v : Channels) (found : Option Held) → Below v → Below (times_end found tries v)
  below_end v None below = below
  below_end v (Some held) below = below_end_at v held held.stage below

  -- no request for an end is given up, as none is spent
  ended_same : (v : Channels) (held : Held) (request : Request) (spent : Channels → Channels) (own : ℕ) → request.given < tries → held_at own (times tries (errands.Disconnection held.own) request spent v) ≡ held_at own v
  ended_same v held request spent own few = by (is_due (errands.Disconnection held.own) v) (leb tries request.given) refl
    where
      by : (due most : Bool) → leb tries request.given ≡ most → held_at own (fires (cond due StillDue (cond most Spent OnceMore)) (errands.Disconnection held.own) spent v) ≡ held_at own v
      by true most is = refl
      by false true is = let many = leb-true tries request.given is in absurd (omega (arith, many, few))
      by false false is = refl

  no_end : (v : Channels) (own : ℕ) → Below v → ForgoesNoEnd (given_up own v (times_end (held_at own v) tries v))
  no_end v own below = by (held_at own v) refl
    where
      same_so : (held : Held) (w : Channels) → held_at own v ≡ Some held → held_at own w ≡ held_at own v → ForgoesNoEnd (forgone_between (Some held) (held_at own w))
      same_so held w at same = subst (λ (h : Option Held). ForgoesNoEnd (forgone_between (Some held) h)) (sym (same ∙ at)) (no_same (Some held))

      few : (held : Held) (stage : Stage) (request : Request) → held.stage ≡ stage → held_at own v ≡ Some held → for_end stage ≡ Some request → request.given < tries
      few held stage request is at asks = below own request (ap (request_at for_end) at ∙ (ap for_end is ∙ asks))

      staged_so : (held : Held) (stage : Stage) → held.stage ≡ stage → held_at own v ≡ Some held → ForgoesNoEnd (forgone_between (Some held) (held_at own (times_end_at stage tries held v)))
      staged_so held (Requested request) is at = same_so held v at refl
      staged_so held (Connected peer setup) is at = same_so held v at refl
      staged_so held (Leaving peer setup request) is at = same_so held (times_end_at (Leaving peer setup request) tries held v) at (ended_same v held request (ends RetryLimit held) own (few held (Leaving peer setup request) request is at refl))
      staged_so held (Closing peer request checked) is at = same_so held (times_end_at (Closing peer request checked) tries held v) at (ended_same v held request (loses_end held) own (few held (Closing peer request checked) request is at refl))
      staged_so held (Crossed peer request) is at = same_so held (times_end_at (Crossed peer request) tries held v) at (ended_same v held request (loses_end held) own (few held (Crossed peer request) request is at refl))

      by : (found : Option Held) → held_at own v ≡ found → ForgoesNoEnd (forgone_between found (held_at own (times_end found tries v)))
      by None at = no_nothing
      by (Some held) at = staged_so held held.stage refl at

  -- ---- all of a firing

  no_other : (identifier : ℕ) → ForgoesNoEnd (GaveUp (sayings.Information identifier) ∷ [])
  no_other identifier own peer (inl same) = cc
  no_other identifier own peer (inr none) = elim none [ ]

  no_features : (before after : Option Request) → ForgoesNoEnd (features_given_up before after)
  no_features None after = no_nothing
  no_features (Some request) None = no_other request.identifier
  no_features (Some request) (Some other) = no_nothing

  pub no-firing : (owns : List ℕ) (v : Channels) → Below v → ForgoesNoEnd (said_by_channels tries owns v)
  no-firing [] v below =
      let w : Channels = times_features v.features tries v in
      no_both (said_again errands.Features v w) (features_given_up v.features w.features) (no_again errands.Features v w) (no_features v.features w.features)
  no-firing (own ∷ owns) v below =
      let between : Channels = times_held (held_at own v) tries v in
      let after : Channels = times_end (held_at own between) tries between in
      let kept : Below between = below_held v own below in
      no_both (said_by_channel tries own v) (said_by_channels tries owns (fired_channel tries own v))
      (no_both (said_on_firing own v between) (said_on_firing own between after) (no_fired own v between (no_waiting v tries own)) (no_fired own between after (no_end between own kept)))
      (no-firing owns (fired_channel tries own v) (below_end between (held_at own between) kept))

-- ---- whatever happens

left_none : (v : Channels) (own : ℕ) → ForgoesNoEnd (given_up own v (disconnected own v))
left_none v own = by (held_at own v) refl
  where
    staged_so : (held : Held) (stage : Stage) → held.stage ≡ stage → held_at own v ≡ Some held → ForgoesNoEnd (forgone_between (Some held) (held_at own (disconnected_at stage held v)))
    staged_so held (Requested request) is at = no_early held (Requested request) _ is refl
    staged_so held (Connected peer setup) is at = no_early held (Connected peer setup) _ is refl
    staged_so held (Leaving peer setup request) is at = subst (λ (h : Option Held). ForgoesNoEnd (forgone_between (Some held) h)) (sym at) (no_same (Some held))
    staged_so held (Closing peer request checked) is at = subst (λ (h : Option Held). ForgoesNoEnd (forgone_between (Some held) h)) (sym at) (no_same (Some held))
    staged_so held (Crossed peer request) is at = subst (λ (h : Option Held). ForgoesNoEnd (forgone_between (Some held) h)) (sym at) (no_same (Some held))

    by : (found : Option Held) → held_at own v ≡ found → ForgoesNoEnd (forgone_between found (held_at own (disconnected_held found v)))
    by None at = no_nothing
    by (Some held) at = staged_so held held.stage refl at

pub no-forgone : (policy : Policy) (more : Occurrence) (v : Channels) → 1 ≤ policy.tries → (more ≡ Fires → (own : ℕ) → IsUnspent policy.tries (errands.Disconnection own) v) → ForgoesNoEnd (said_in policy more v)
no-forgone policy (Comes pdu) v some unspent = by (eqb (channel_of pdu) 0x0001)
  where
    by : (signals : Bool) → ForgoesNoEnd (cond signals (said_with_all policy (answers (drop 4 pdu)) v) (Carried Into pdu ∷ asked_between v (takes (channel_of pdu) pdu v)))
    by true = no_commands policy (answers (drop 4 pdu)) v
    by false = let w : Channels = takes (channel_of pdu) pdu v in no_both (Carried Into pdu ∷ []) (asked_between v w) (no_carried Into pdu) (no_asked v w)
no-forgone policy (Connects psm) v some unspent = no_asked v (connected psm v)
no-forgone policy AsksFeatures v some unspent = no_asked v (asks_features v)
no-forgone policy (Disconnects own) v some unspent = let w : Channels = disconnected own v in no_both (asked_between v w) (given_up own v w) (no_asked v w) (left_none v own)
no-forgone policy (Sends own sdu) v some unspent = no_sent (carrier_at own v) _ sdu
no-forgone policy (Gives pdu) v some unspent = no_given (next_given v) pdu
no-forgone policy Fires v some unspent = no-firing policy.tries some (map (λ (held : Held). held.own) v.held) v (unspent refl)
no-forgone policy Tells v some unspent = no_nothing
