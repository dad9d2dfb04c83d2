-- All that a host does by itself, and what its timer does, step by step.
use Rattle.std.proofs.Common.{◌≡◌, ℕ, List, [], ◌∷◌, Bool, true, false, cond, Option, Some, None, refl, sym, ap, subst, ◌∙◌, inl}
use Rattle.std.specs.Prelude.{find, map, option_map, is_some}
use Rattle.ertm_model.specs.declared.reason.ErtmReason.{ErtmReason}
use Rattle.ertm_model.specs.Value.{Ertm}
use Rattle.ertm_model.specs.Giving.{timed}
use Rattle.l2cap_config.specs.declared.wish.Wish.{Wish}
use Rattle.channel_model.specs.declared.errand.Errand.{Errand}
use Rattle.channel_model.specs.declared.errand.Errand.TheVariants as errands
use Rattle.channel_model.specs.declared.event.ChannelEvent.TheVariants.{DisconnectLost, FeaturesLost}
use Rattle.channel_model.specs.declared.event.CloseReason.TheVariants.{RetryLimit, OwnClosed}
use Rattle.channel_model.specs.Value.{Request, Queued, Answer, Ask, Own, Unasked, Asking, Granted, Carrier, Plain, Retransmitting, Setup, Stage, Requested, Connected, Leaving, Closing, Crossed, Held, Channels}
use Rattle.channel_model.specs.Policies.{Policy}
use Rattle.channel_model.specs.Changing.{has_own, held_at, is_stated, is_open, queued, setup_of, stage_with, with_setup, to_setup, to_stage, forgets}
use Rattle.channel_model.specs.Asking.{new_request, asks, Fired, StillDue, OnceMore, Spent, fired}
use Rattle.channel_model.specs.Closing.{closes, ends}
use Rattle.channel_model.specs.Configuring.{opens_if, granted_setup, grants}
use Rattle.channel_model.specs.Following.{with_channel}
use Rattle.channel_model.specs.Carrying.{reason_of, settles_machine, machine_heard, read_by, carries, is_taken_with, opens_with, takes_with, takes_on, takes_held, takes}
use Rattle.channel_model.specs.Timing.{fires, times_carrier, times_setup, times_stage, times_held, loses_end, times_end_at, times_end, loses_features, times_features, times_channels, timed_out}
use Rattle.channel_model.specs.Giving.{one_more, own_given, setup_given, connection_given, configuration_given, disconnection_given, stage_given, counted, gives, carrier_given, carrier_spent, held_given, queue_given, after_given}
use Rattle.channel_model.specs.Calls.{can_connect, connected, asks_features, disconnected_at, disconnected_held, disconnected, carrier_with, sends_setup, sends_on, sends_held, sends}
use Rattle.channel_model.proofs.Lookups.{own_of, Distinct, found-distinct}
use Rattle.channel_model.proofs.Going.{OwnGoes, CarrierGoes, SetupGoes, StageGoes, Walks, only-none, placed}
use Rattle.channel_model.proofs.Walking.{stays, found-own, append_none, own-same, setup-goes, to-setup, with-found, with-setup, closes-goes, ends-goes, grants-goes}

-- ---- carriers

-- the carrier changes, and nothing else
carried-goes : (wish : Wish) (C : Carrier → Carrier → Type 0) (before : Setup) (carrier after : Carrier) → before.carrier ≡ Some carrier → C carrier after → (let now : Setup = record before { carrier = Some after } in SetupGoes wish C before now)
carried-goes wish C before carrier after is goes = record {
  own_goes = own-same before.own;
  carrier_goes = subst (λ c. CarrierGoes wish C (is_open before) c (Some after)) (sym is) (inl goes);
  stated = λ stated some. stated (ap is_some is);
}

pub machine-goes : (policy : Policy) (C : Carrier → Carrier → Type 0) (R : Channels → Channels → Type 0) (walks : Walks policy C R) (v : Channels) (held : Held) (setup : Setup) (before machine : Ertm) (closed : Option ErtmReason)
    → find (has_own held.own) v.held ≡ Some held → setup_of held.stage ≡ Some setup → setup.carrier ≡ Some (Retransmitting before) → (closed ≡ None → C (Retransmitting before) (Retransmitting machine))
    → R v (settles_machine closed machine held setup v)
machine-goes policy C R walks v held setup before machine None found is carrier goes =
    let after : Setup = record setup { carrier = Some (Retransmitting machine) } in
    to-setup policy C R walks v (to_setup held after v) held setup after found is (carried-goes (policy.wish held.psm) C setup (Retransmitting before) (Retransmitting machine) carrier (goes refl)) refl refl refl
machine-goes policy C R walks v held setup before machine (Some reason) found is carrier goes = closes-goes policy C R walks v held (reason_of reason) held.stage refl found

-- ---- calls

pub connected-goes : (policy : Policy) (C : Carrier → Carrier → Type 0) (R : Channels → Channels → Type 0) (walks : Walks policy C R) (psm : ℕ) (v : Channels) → R v (connected psm v)
connected-goes policy C R walks psm v = by (can_connect v)
  where
    by : (can : Bool) → R v (cond can (asks (errands.Connection v.next) (with_channel psm (Requested (new_request v)) v)) v)
    by true = walks.made v (asks (errands.Connection v.next) (with_channel psm (Requested (new_request v)) v)) psm (Requested (new_request v)) tt refl refl refl
    by false = stays policy C R walks v

pub asks-features-goes : (policy : Policy) (C : Carrier → Carrier → Type 0) (R : Channels → Channels → Type 0) (walks : Walks policy C R) (v : Channels) → R v (asks_features v)
asks-features-goes policy C R walks v = by (is_some v.features)
  where
    by : (some : Bool) → (let w : Channels = asks errands.Features (record v { features = Some (new_request v) }) in R v (cond some v w))
    by true = stays policy C R walks v
    by false = walks.still v (asks errands.Features (record v { features = Some (new_request v) })) refl refl refl

left_goes : (policy : Policy) (C : Carrier → Carrier → Type 0) (R : Channels → Channels → Type 0) (walks : Walks policy C R) (v : Channels) (held : Held) (stage : Stage) → held.stage ≡ stage → find (has_own held.own) v.held ≡ Some held → R v (disconnected_at stage held v)
left_goes policy C R walks v held (Requested request) is found = closes-goes policy C R walks v held OwnClosed held.stage refl found
left_goes policy C R walks v held (Connected peer setup) is found =
    let stage : Stage = Leaving peer setup (new_request v) in
    let w : Channels = asks (errands.Disconnection held.own) (to_stage held stage v) in
    walks.moves v w held (Some stage) []
    (placed policy C v w held stage [] found refl refl (append_none v.events) (only-none held)
    (subst (λ s. StageGoes (policy.wish held.psm) C s (Some stage) false) (sym is) (refl, refl, refl)))
left_goes policy C R walks v held (Leaving peer setup request) is found = stays policy C R walks v
left_goes policy C R walks v held (Closing peer request checked) is found = stays policy C R walks v
left_goes policy C R walks v held (Crossed peer request) is found = stays policy C R walks v

left_held : (policy : Policy) (C : Carrier → Carrier → Type 0) (R : Channels → Channels → Type 0) (walks : Walks policy C R) (v : Channels) (own : ℕ) (held : Option Held) → find (has_own own) v.held ≡ held → R v (disconnected_held held v)
left_held policy C R walks v own None is = stays policy C R walks v
left_held policy C R walks v own (Some held) is = left_goes policy C R walks v held held.stage refl (found-own own v held is)

pub disconnected-goes : (policy : Policy) (C : Carrier → Carrier → Type 0) (R : Channels → Channels → Type 0) (walks : Walks policy C R) (own : ℕ) (v : Channels) → R v (disconnected own v)
disconnected-goes policy C R walks own v = left_held policy C R walks v own (held_at own v) refl

-- an SDU is sent
abbrev pub Sending : (C : Carrier → Carrier → Type 0) → List ℕ → Type 0
Sending C sdu = (carrier : Carrier) → C carrier (carrier_with carrier sdu)

sent_setup : (wish : Wish) (C : Carrier → Carrier → Type 0) (sdu : List ℕ) (setup : Setup) → ((carrier : Carrier) → C carrier carrier) → Sending C sdu → SetupGoes wish C setup (sends_setup setup sdu)
sent_setup wish C sdu setup same sending = by (is_open setup) setup.carrier refl
  where
    by : (opened : Bool) (carrier : Option Carrier) → setup.carrier ≡ carrier → (let now : Setup = record setup { carrier = option_map (λ c. carrier_with c sdu) setup.carrier } in SetupGoes wish C setup (cond opened now setup))
    by true None is =
        let now : Setup = record setup { carrier = option_map (λ c. carrier_with c sdu) setup.carrier } in
        setup-goes wish C same setup now (ap (option_map (λ c. carrier_with c sdu)) is ∙ sym is) (own-same setup.own)
    by true (Some carrier) is =
        let now : Setup = record setup { carrier = Some (carrier_with carrier sdu) } in
        let also : Setup = record setup { carrier = option_map (λ c. carrier_with c sdu) setup.carrier } in
        subst (λ (c : Option Carrier). let s : Setup = record setup { carrier = c } in SetupGoes wish C setup s) (sym (ap (option_map (λ c. carrier_with c sdu)) is)) (carried-goes wish C setup carrier (carrier_with carrier sdu) is (sending carrier))
    by false carrier is = setup-goes wish C same setup setup refl (own-same setup.own)

sent_on : (policy : Policy) (C : Carrier → Carrier → Type 0) (R : Channels → Channels → Type 0) (walks : Walks policy C R) (v : Channels) (held : Held) (sdu : List ℕ) (setup : Option Setup) → Sending C sdu → find (has_own held.own) v.held ≡ Some held
    → setup_of held.stage ≡ setup → R v (sends_on setup sdu held v)
sent_on policy C R walks v held sdu None sending found is = stays policy C R walks v
sent_on policy C R walks v held sdu (Some setup) sending found is =
    to-setup policy C R walks v (to_setup held (sends_setup setup sdu) v) held setup (sends_setup setup sdu) found is (sent_setup (policy.wish held.psm) C sdu setup walks.same sending) refl refl refl

sent_held : (policy : Policy) (C : Carrier → Carrier → Type 0) (R : Channels → Channels → Type 0) (walks : Walks policy C R) (v : Channels) (own : ℕ) (sdu : List ℕ) (held : Option Held) → Sending C sdu → find (has_own own) v.held ≡ held → R v (sends_held held sdu v)
sent_held policy C R walks v own sdu None sending is = stays policy C R walks v
sent_held policy C R walks v own sdu (Some held) sending is = sent_on policy C R walks v held sdu (setup_of held.stage) sending (found-own own v held is) refl

pub sends-goes : (policy : Policy) (C : Carrier → Carrier → Type 0) (R : Channels → Channels → Type 0) (walks : Walks policy C R) (own : ℕ) (sdu : List ℕ) (v : Channels) → Sending C sdu → R v (sends own sdu v)
sends-goes policy C R walks own sdu v sending = sent_held policy C R walks v own sdu (held_at own v) sending refl

-- ---- a PDU comes in on a channel

abbrev pub Hearing : (C : Carrier → Carrier → Type 0) → List ℕ → Type 0
Hearing C pdu = (machine : Ertm) → (machine_heard (read_by machine pdu) machine).closed ≡ None → C (Retransmitting machine) (Retransmitting (machine_heard (read_by machine pdu) machine))

carried_by : (policy : Policy) (C : Carrier → Carrier → Type 0) (R : Channels → Channels → Type 0) (walks : Walks policy C R) (v : Channels) (pdu : List ℕ) (held : Held) (setup : Setup) (carrier : Carrier) → Hearing C pdu → find (has_own held.own) v.held ≡ Some held
    → setup_of held.stage ≡ Some setup → setup.carrier ≡ Some carrier → R v (carries carrier pdu held setup v)
carried_by policy C R walks v pdu held setup (Plain agreed waiting) hearing found is carrier_is = stays policy C R walks v
carried_by policy C R walks v pdu held setup (Retransmitting machine) hearing found is carrier_is =
    let after : Ertm = machine_heard (read_by machine pdu) machine in
    machine-goes policy C R walks v held setup machine after after.closed found is carrier_is (hearing machine)

pub granted-same : (stage : Stage) (setup : Setup) → setup_of stage ≡ Some setup → setup.own ≡ Granted → stage_with (granted_setup setup) stage ≡ stage
granted-same (Requested request) setup is own = cc
granted-same (Connected peer s) setup is own = let same : s ≡ setup = cc in ap (Connected peer) (ap (λ (o : Own). let x : Setup = record setup { own = o } in x) (sym own) ∙ sym same)
granted-same (Leaving peer s request) setup is own = let same : s ≡ setup = cc in ap (λ x. Leaving peer x request) (ap (λ (o : Own). let x : Setup = record setup { own = o } in x) (sym own) ∙ sym same)
granted-same (Closing peer request checked) setup is own = cc
granted-same (Crossed peer request) setup is own = cc

opened_by : (policy : Policy) (C : Carrier → Carrier → Type 0) (R : Channels → Channels → Type 0) (walks : Walks policy C R) (v : Channels) (pdu : List ℕ) (held : Held) (setup : Setup) (carrier : Carrier) (own : Own) (taken : Bool) → Hearing C pdu
    → find (has_own held.own) v.held ≡ Some held → setup_of held.stage ≡ Some setup → setup.carrier ≡ Some carrier → setup.own ≡ own → is_taken_with own carrier pdu ≡ taken
    → R v (cond taken (carries carrier pdu (with_setup held (granted_setup setup)) (granted_setup setup) (opens_with own held setup v)) v)
opened_by policy C R walks v pdu held setup carrier own false hearing found is carrier_is own_is takes = stays policy C R walks v
opened_by policy C R walks v pdu held setup carrier Unasked true hearing found is carrier_is own_is takes = cc
opened_by policy C R walks v pdu held setup carrier (Asking request options) true hearing found is carrier_is own_is takes =
    let u : Channels = grants held setup v in
    walks.both v u (carries carrier pdu (with_setup held (granted_setup setup)) (granted_setup setup) u) (grants-goes policy C R walks v held setup found is (ap is_stated own_is))
    (carried_by policy C R walks u pdu (with_setup held (granted_setup setup)) (granted_setup setup) carrier hearing (granted_found v held setup (is_some setup.carrier) found) (with-setup held.stage setup (granted_setup setup) is) carrier_is)
  where
    granted_found : (v : Channels) (held : Held) (setup : Setup) (some : Bool) → find (has_own held.own) v.held ≡ Some held
        → find (has_own held.own) (grants held setup v).held ≡ Some (with_setup held (granted_setup setup))
    granted_found v held setup some found = by_some (is_some setup.carrier)
      where
        by_some : (b : Bool) → find (has_own held.own) (opens_if b held (to_setup held (granted_setup setup) (forgets (errands.Configuration held.own) v))).held ≡ Some (with_setup held (granted_setup setup))
        by_some true = with-found v held (granted_setup setup) found
        by_some false = with-found v held (granted_setup setup) found
opened_by policy C R walks v pdu held setup carrier Granted true hearing found is carrier_is own_is takes =
    let same : with_setup held (granted_setup setup) ≡ held = ap (λ (s : Stage). let h : Held = record held { stage = s } in h) (granted-same held.stage setup is own_is) in
    carried_by policy C R walks v pdu (with_setup held (granted_setup setup)) (granted_setup setup) carrier hearing (found ∙ ap Some (sym same)) (with-setup held.stage setup (granted_setup setup) is) carrier_is

taken_with : (policy : Policy) (C : Carrier → Carrier → Type 0) (R : Channels → Channels → Type 0) (walks : Walks policy C R) (v : Channels) (pdu : List ℕ) (held : Held) (setup : Setup) (carrier : Option Carrier) → Hearing C pdu
    → find (has_own held.own) v.held ≡ Some held → setup_of held.stage ≡ Some setup → setup.carrier ≡ carrier → R v (takes_with carrier pdu held setup v)
taken_with policy C R walks v pdu held setup None hearing found is carrier_is = stays policy C R walks v
taken_with policy C R walks v pdu held setup (Some carrier) hearing found is carrier_is = opened_by policy C R walks v pdu held setup carrier setup.own (is_taken_with setup.own carrier pdu) hearing found is carrier_is refl refl

taken_on : (policy : Policy) (C : Carrier → Carrier → Type 0) (R : Channels → Channels → Type 0) (walks : Walks policy C R) (v : Channels) (pdu : List ℕ) (held : Held) (setup : Option Setup) → Hearing C pdu → find (has_own held.own) v.held ≡ Some held
    → setup_of held.stage ≡ setup → R v (takes_on setup pdu held v)
taken_on policy C R walks v pdu held None hearing found is = stays policy C R walks v
taken_on policy C R walks v pdu held (Some setup) hearing found is = taken_with policy C R walks v pdu held setup setup.carrier hearing found is refl

taken_held : (policy : Policy) (C : Carrier → Carrier → Type 0) (R : Channels → Channels → Type 0) (walks : Walks policy C R) (v : Channels) (own : ℕ) (pdu : List ℕ) (held : Option Held) → Hearing C pdu → find (has_own own) v.held ≡ held → R v (takes_held held pdu v)
taken_held policy C R walks v own pdu None hearing is = stays policy C R walks v
taken_held policy C R walks v own pdu (Some held) hearing is = taken_on policy C R walks v pdu held (setup_of held.stage) hearing (found-own own v held is) refl

pub takes-goes : (policy : Policy) (C : Carrier → Carrier → Type 0) (R : Channels → Channels → Type 0) (walks : Walks policy C R) (own : ℕ) (pdu : List ℕ) (v : Channels) → Hearing C pdu → R v (takes own pdu v)
takes-goes policy C R walks own pdu v hearing = taken_held policy C R walks v own pdu (held_at own v) hearing refl

-- ---- the timer

abbrev pub Firing : (C : Carrier → Carrier → Type 0) → Type 0
Firing C = (machine : Ertm) → (timed machine).closed ≡ None → C (Retransmitting machine) (Retransmitting (timed machine))

fires_go : (policy : Policy) (C : Carrier → Carrier → Type 0) (R : Channels → Channels → Type 0) (walks : Walks policy C R) (v : Channels) (now : Fired) (errand : Errand) (spent : Channels → Channels) → R v (spent v) → R v (fires now errand spent v)
fires_go policy C R walks v StillDue errand spent goes = stays policy C R walks v
fires_go policy C R walks v OnceMore errand spent goes = walks.still v (queued (Ask errand) v) refl refl refl
fires_go policy C R walks v Spent errand spent goes = goes

timed_carrier : (policy : Policy) (C : Carrier → Carrier → Type 0) (R : Channels → Channels → Type 0) (walks : Walks policy C R) (v : Channels) (held : Held) (setup : Setup) (carrier : Option Carrier) → Firing C → find (has_own held.own) v.held ≡ Some held
    → setup_of held.stage ≡ Some setup → setup.carrier ≡ carrier → R v (times_carrier carrier held setup v)
timed_carrier policy C R walks v held setup None firing found is carrier_is = stays policy C R walks v
timed_carrier policy C R walks v held setup (Some (Plain agreed waiting)) firing found is carrier_is = stays policy C R walks v
timed_carrier policy C R walks v held setup (Some (Retransmitting machine)) firing found is carrier_is =
    machine-goes policy C R walks v held setup machine (timed machine) (timed machine).closed found is carrier_is (firing machine)

timed_setup : (policy : Policy) (C : Carrier → Carrier → Type 0) (R : Channels → Channels → Type 0) (walks : Walks policy C R) (v : Channels) (tries : ℕ) (held : Held) (setup : Setup) (own : Own) → Firing C → find (has_own held.own) v.held ≡ Some held
    → setup_of held.stage ≡ Some setup → R v (times_setup own tries held setup v)
timed_setup policy C R walks v tries held setup Unasked firing found is = timed_carrier policy C R walks v held setup setup.carrier firing found is refl
timed_setup policy C R walks v tries held setup (Asking request options) firing found is =
    fires_go policy C R walks v (fired tries (errands.Configuration held.own) request v) (errands.Configuration held.own) (closes RetryLimit held) (closes-goes policy C R walks v held RetryLimit held.stage refl found)
timed_setup policy C R walks v tries held setup Granted firing found is = timed_carrier policy C R walks v held setup setup.carrier firing found is refl

timed_stage : (policy : Policy) (C : Carrier → Carrier → Type 0) (R : Channels → Channels → Type 0) (walks : Walks policy C R) (v : Channels) (tries : ℕ) (held : Held) (stage : Stage) → held.stage ≡ stage → Firing C → find (has_own held.own) v.held ≡ Some held
    → R v (times_stage stage tries held v)
timed_stage policy C R walks v tries held (Requested request) is firing found =
    fires_go policy C R walks v (fired tries (errands.Connection held.own) request v) (errands.Connection held.own) (closes RetryLimit held) (closes-goes policy C R walks v held RetryLimit held.stage refl found)
timed_stage policy C R walks v tries held (Connected peer setup) is firing found = timed_setup policy C R walks v tries held setup setup.own firing found (ap setup_of is)
timed_stage policy C R walks v tries held (Leaving peer setup request) is firing found = timed_setup policy C R walks v tries held setup setup.own firing found (ap setup_of is)
timed_stage policy C R walks v tries held (Closing peer request checked) is firing found = stays policy C R walks v
timed_stage policy C R walks v tries held (Crossed peer request) is firing found = stays policy C R walks v

pub timed-held : (policy : Policy) (C : Carrier → Carrier → Type 0) (R : Channels → Channels → Type 0) (walks : Walks policy C R) (v : Channels) (tries own : ℕ) (held : Option Held) → Firing C → find (has_own own) v.held ≡ held → R v (times_held held tries v)
timed-held policy C R walks v tries own None firing is = stays policy C R walks v
timed-held policy C R walks v tries own (Some held) firing is = timed_stage policy C R walks v tries held held.stage refl firing (found-own own v held is)

lost_end : (policy : Policy) (C : Carrier → Carrier → Type 0) (R : Channels → Channels → Type 0) (walks : Walks policy C R) (v : Channels) (held : Held) → find (has_own held.own) v.held ≡ Some held → R v (loses_end held v)
lost_end policy C R walks v held found =
    let u : Channels = ends RetryLimit held v in
    walks.both v u (loses_end held v) (ends-goes policy C R walks v held RetryLimit held.stage refl found) (walks.tells u (loses_end held v) (DisconnectLost held.own) refl refl refl (λ own. refl))

timed_end : (policy : Policy) (C : Carrier → Carrier → Type 0) (R : Channels → Channels → Type 0) (walks : Walks policy C R) (v : Channels) (tries : ℕ) (held : Held) (stage : Stage) → find (has_own held.own) v.held ≡ Some held → R v (times_end_at stage tries held v)
timed_end policy C R walks v tries held (Requested request) found = stays policy C R walks v
timed_end policy C R walks v tries held (Connected peer setup) found = stays policy C R walks v
timed_end policy C R walks v tries held (Leaving peer setup request) found =
    fires_go policy C R walks v (fired tries (errands.Disconnection held.own) request v) (errands.Disconnection held.own) (ends RetryLimit held) (ends-goes policy C R walks v held RetryLimit held.stage refl found)
timed_end policy C R walks v tries held (Closing peer request checked) found =
    fires_go policy C R walks v (fired tries (errands.Disconnection held.own) request v) (errands.Disconnection held.own) (loses_end held) (lost_end policy C R walks v held found)
timed_end policy C R walks v tries held (Crossed peer request) found =
    fires_go policy C R walks v (fired tries (errands.Disconnection held.own) request v) (errands.Disconnection held.own) (loses_end held) (lost_end policy C R walks v held found)

pub ended-held : (policy : Policy) (C : Carrier → Carrier → Type 0) (R : Channels → Channels → Type 0) (walks : Walks policy C R) (v : Channels) (tries own : ℕ) (held : Option Held) → find (has_own own) v.held ≡ held → R v (times_end held tries v)
ended-held policy C R walks v tries own None is = stays policy C R walks v
ended-held policy C R walks v tries own (Some held) is = timed_end policy C R walks v tries held held.stage (found-own own v held is)

channels_timed : (policy : Policy) (C : Carrier → Carrier → Type 0) (R : Channels → Channels → Type 0) (walks : Walks policy C R) (tries : ℕ) (owns : List ℕ) (v : Channels) → Firing C → R v (times_channels tries owns v)
channels_timed policy C R walks tries [] v firing = stays policy C R walks v
channels_timed policy C R walks tries (own ∷ owns) v firing =
    let u : Channels = times_held (held_at own v) tries v in
    let w : Channels = times_end (held_at own u) tries u in
    walks.both v w (times_channels tries owns w)
    (walks.both v u w (timed-held policy C R walks v tries own (held_at own v) firing refl) (ended-held policy C R walks u tries own (held_at own u) refl)) (channels_timed policy C R walks tries owns w firing)

pub features-timed : (policy : Policy) (C : Carrier → Carrier → Type 0) (R : Channels → Channels → Type 0) (walks : Walks policy C R) (tries : ℕ) (features : Option Request) (v : Channels) → R v (times_features features tries v)
features-timed policy C R walks tries None v = stays policy C R walks v
features-timed policy C R walks tries (Some request) v =
    fires_go policy C R walks v (fired tries errands.Features request v) errands.Features loses_features (walks.tells v (loses_features v) FeaturesLost refl refl refl (λ own. refl))

pub timed-goes : (policy : Policy) (C : Carrier → Carrier → Type 0) (R : Channels → Channels → Type 0) (walks : Walks policy C R) (v : Channels) → Firing C → R v (timed_out policy v)
timed-goes policy C R walks v firing =
    let u : Channels = times_channels policy.tries (map (λ held. held.own) v.held) v in
    walks.both v u (timed_out policy v) (channels_timed policy C R walks policy.tries (map (λ held. held.own) v.held) v firing) (features-timed policy C R walks policy.tries u.features u)

-- ---- the next PDU is given

abbrev pub Giving : (C : Carrier → Carrier → Type 0) → Type 0
Giving C = (carrier : Carrier) → C carrier (carrier_given carrier)

own_given_goes : (own : Own) → OwnGoes own (own_given own)
own_given_goes Unasked = tt
own_given_goes (Asking request options) = tt
own_given_goes Granted = tt

given_setup : (wish : Wish) (C : Carrier → Carrier → Type 0) → ((carrier : Carrier) → C carrier carrier) → (setup : Setup) → SetupGoes wish C setup (setup_given setup)
given_setup wish C same setup = setup-goes wish C same setup (setup_given setup) refl (own_given_goes setup.own)

-- a change of how a channel is held of which nothing else follows
abbrev Counts : Wish → (C : Carrier → Carrier → Type 0) → (Stage → Stage) → Type 0
Counts wish C f = (stage : Stage) → StageGoes wish C stage (Some (f stage)) false

connection_counts : (wish : Wish) (C : Carrier → Carrier → Type 0) → ((carrier : Carrier) → C carrier carrier) → Counts wish C connection_given
connection_counts wish C same (Requested request) = refl
connection_counts wish C same (Connected peer setup) = (refl, setup-goes wish C same setup setup refl (own-same setup.own), refl)
connection_counts wish C same (Leaving peer setup request) = (refl, setup-goes wish C same setup setup refl (own-same setup.own), refl)
connection_counts wish C same (Closing peer request checked) = refl
connection_counts wish C same (Crossed peer request) = refl

configuration_counts : (wish : Wish) (C : Carrier → Carrier → Type 0) → ((carrier : Carrier) → C carrier carrier) → Counts wish C configuration_given
configuration_counts wish C same (Requested request) = refl
configuration_counts wish C same (Connected peer setup) = (refl, given_setup wish C same setup, refl)
configuration_counts wish C same (Leaving peer setup request) = (refl, given_setup wish C same setup, refl)
configuration_counts wish C same (Closing peer request checked) = refl
configuration_counts wish C same (Crossed peer request) = refl

disconnection_counts : (wish : Wish) (C : Carrier → Carrier → Type 0) → ((carrier : Carrier) → C carrier carrier) → Counts wish C disconnection_given
disconnection_counts wish C same (Requested request) = refl
disconnection_counts wish C same (Connected peer setup) = (refl, setup-goes wish C same setup setup refl (own-same setup.own), refl)
disconnection_counts wish C same (Leaving peer setup request) = (refl, setup-goes wish C same setup setup refl (own-same setup.own), refl)
disconnection_counts wish C same (Closing peer request checked) = refl
disconnection_counts wish C same (Crossed peer request) = refl

stage_counted : (policy : Policy) (C : Carrier → Carrier → Type 0) (R : Channels → Channels → Type 0) (walks : Walks policy C R) (f : Stage → Stage) (own : ℕ) (held : Option Held) (v : Channels) → ((wish : Wish) → Counts wish C f) → find (has_own own) v.held ≡ held
    → R v (stage_given f held v)
stage_counted policy C R walks f own None v counts is = stays policy C R walks v
stage_counted policy C R walks f own (Some held) v counts is =
    let w : Channels = to_stage held (f held.stage) v in
    walks.moves v w held (Some (f held.stage)) [] (placed policy C v w held (f held.stage) [] (found-own own v held is) refl refl (append_none v.events) (only-none held) (counts (policy.wish held.psm) held.stage))

counted_goes : (policy : Policy) (C : Carrier → Carrier → Type 0) (R : Channels → Channels → Type 0) (walks : Walks policy C R) (errand : Errand) (v : Channels) → R v (counted errand v)
counted_goes policy C R walks (errands.Connection own) v = stage_counted policy C R walks connection_given own (held_at own v) v (λ wish. connection_counts wish C walks.same) refl
counted_goes policy C R walks (errands.Configuration own) v = stage_counted policy C R walks configuration_given own (held_at own v) v (λ wish. configuration_counts wish C walks.same) refl
counted_goes policy C R walks (errands.Disconnection own) v = stage_counted policy C R walks disconnection_given own (held_at own v) v (λ wish. disconnection_counts wish C walks.same) refl
counted_goes policy C R walks errands.Features v = walks.still v (record v { features = option_map one_more v.features }) refl refl refl

given_carrier : (wish : Wish) (C : Carrier → Carrier → Type 0) (setup : Setup) (carrier : Option Carrier) → Giving C → ((c : Carrier) → C c c) → setup.carrier ≡ carrier → (let now : Setup = record setup { carrier = option_map carrier_given setup.carrier } in SetupGoes wish C setup now)
given_carrier wish C setup None giving same is =
    let now : Setup = record setup { carrier = option_map carrier_given setup.carrier } in
    setup-goes wish C same setup now (ap (option_map carrier_given) is ∙ sym is) (own-same setup.own)
given_carrier wish C setup (Some carrier) giving same is =
    subst (λ (c : Option Carrier). let s : Setup = record setup { carrier = c } in SetupGoes wish C setup s) (sym (ap (option_map carrier_given) is)) (carried-goes wish C setup carrier (carrier_given carrier) is (giving carrier))

given_on : (policy : Policy) (C : Carrier → Carrier → Type 0) (R : Channels → Channels → Type 0) (walks : Walks policy C R) (v : Channels) (held : Held) (setup : Option Setup) → Giving C → find (has_own held.own) v.held ≡ Some held → setup_of held.stage ≡ setup
    → R v (carrier_spent setup held v)
given_on policy C R walks v held None giving found is = stays policy C R walks v
given_on policy C R walks v held (Some setup) giving found is =
    let after : Setup = record setup { carrier = option_map carrier_given setup.carrier } in
    to-setup policy C R walks v (to_setup held after v) held setup after found is (given_carrier (policy.wish held.psm) C setup setup.carrier giving walks.same refl) refl refl refl

given_held : (policy : Policy) (C : Carrier → Carrier → Type 0) (R : Channels → Channels → Type 0) (walks : Walks policy C R) (v : Channels) (held : Option Held) → Giving C → Distinct own_of v.held → find gives v.held ≡ held → R v (held_given held v)
given_held policy C R walks v None giving lone is = stays policy C R walks v
given_held policy C R walks v (Some held) giving lone is = given_on policy C R walks v held (setup_of held.stage) giving (found-distinct own_of gives v.held held lone is) refl

queue_goes : (policy : Policy) (C : Carrier → Carrier → Type 0) (R : Channels → Channels → Type 0) (walks : Walks policy C R) (queue : List Queued) (v : Channels) → Giving C → Distinct own_of v.held → R v (queue_given queue v)
queue_goes policy C R walks [] v giving lone = given_held policy C R walks v (find gives v.held) giving lone refl
queue_goes policy C R walks (Answer command ∷ behind) v giving lone = walks.still v (record v { queue = behind }) refl refl refl
queue_goes policy C R walks (Ask errand ∷ behind) v giving lone =
    let u : Channels = record v { queue = behind } in
    walks.both v u (counted errand u) (walks.still v u refl refl refl) (counted_goes policy C R walks errand u)

pub given-goes : (policy : Policy) (C : Carrier → Carrier → Type 0) (R : Channels → Channels → Type 0) (walks : Walks policy C R) (v : Channels) → Giving C → Distinct own_of v.held → R v (after_given v)
given-goes policy C R walks v giving lone = queue_goes policy C R walks v.queue v giving lone
