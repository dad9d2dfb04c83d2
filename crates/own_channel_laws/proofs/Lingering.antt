-- What is known of the options of each channel, and of what was agreed on, stays known with each step but a request of the peer for
-- options.
use Rattle.std.proofs.Common.{◌≡◌, ℕ, List, [], ◌∷◌, ◌++◌, map, Bool, true, false, cond, eqb, not, Option, Some, None, Result, Ok, Err, refl, sym, ap, subst, ◌∙◌, ◌||◌}
use Rattle.std.specs.Prelude.{find, filter, is_some, option_map, nat_le}
use Rattle.std.specs.List.{AllByRecursion}
use Rattle.talk_laws.specs.l2cap_signal.specs.Commands.{Content}
use Rattle.talk_laws.specs.l2cap_signal.specs.declared.refusal.SignalRefusal.{SignalRefusal}
use Rattle.talk_laws.specs.l2cap_signal.specs.declared.refusal.SignalRefusal.TheVariants.{ZeroIdentifier, BadLength, UnknownCode, AboveMtu}
use Rattle.talk_laws.specs.l2cap_config.specs.declared.options.Options.{Options}
use Rattle.talk_laws.specs.l2cap_config.specs.declared.options.ConfigRefusal.{ConfigRefusal}
use Rattle.talk_laws.specs.l2cap_config.specs.declared.agreement.Settled.{Settled}
use Rattle.talk_laws.specs.l2cap_config.specs.declared.agreement.Settled.TheVariants.{Accepted, Again, Wait, Never}
use Rattle.talk_laws.specs.l2cap_config.specs.declared.wish.Agreed.{Agreed}
use Rattle.talk_laws.specs.l2cap_config.specs.declared.wish.Wish.{Wish}
use Rattle.talk_laws.specs.l2cap_config.specs.Agreement.{settled}
use Rattle.talk_laws.specs.l2cap_config.specs.Reading.{options_read}
use Rattle.channel_model.specs.ertm_model.specs.declared.reason.ErtmReason.{ErtmReason}
use Rattle.channel_model.specs.ertm_model.specs.Value.{Ertm}
use Rattle.channel_model.specs.ertm_model.specs.Giving.{timed}
use Rattle.channel_model.specs.declared.errand.Errand.{Errand}
use Rattle.channel_model.specs.declared.errand.Errand.TheVariants as errands
use Rattle.channel_model.specs.declared.event.CloseReason.{CloseReason}
use Rattle.channel_model.specs.declared.event.CloseReason.TheVariants.{NoAgreement, Refused, OwnClosed, RetryLimit}
use Rattle.channel_model.specs.declared.request_kind.RequestKind.{RequestKind}
use Rattle.channel_model.specs.Value.{Request, Queued, Answer, Ask, Own, Unasked, Asking, Granted, Carrier, Plain, Retransmitting, Setup, no_setup, Stage, Requested, Connected, Leaving, Closing, Crossed, Held, Remembered, Channels}
use Rattle.channel_model.specs.Policies.{Policy}
use Rattle.channel_model.specs.Changing.{has_own, in_place_of, held_at, is_peer, to_stage, gone, setup_of, has_fcs_by, is_open, stage_with, with_setup, to_setup, forgets, is_leaving}
use Rattle.channel_model.specs.Asking.{new_request, asks, asks_options, first_options, Fired, StillDue, OnceMore, Spent, fired}
use Rattle.channel_model.specs.Closing.{closes, closes_at, peer_closes_at, ends, ends_at}
use Rattle.channel_model.specs.Configuring.{accepts_with, opens_if, granted_setup, grants}
use Rattle.channel_model.specs.Answers.{remembered, kind_of_code, not_understood, too_long}
use Rattle.channel_model.specs.Following.{with_channel, follows_connection, follows_disconnection, remembers, says, can_say, hears_new, hears_again, hears_kind, hears_request}
use Rattle.channel_model.specs.Hearing.{hears_malformed, is_response_code, is_kind, hears_unread, hears_refused}
use Rattle.channel_model.specs.Responses.{is_fresh_endpoint, connects, hears_connected, hears_grant_at, hears_grant, renewed_setup, hears_settled, hears_options, is_asked, hears_response_on, hears_response, hears_end, has_identifier, hears_features}
use Rattle.channel_model.specs.Carrying.{reason_of, settles_machine, machine_heard, read_by, carries, is_taken_with, opens_with, takes_with, takes_on, takes_held, takes}
use Rattle.channel_model.specs.Timing.{fires, times_carrier, times_setup, times_stage, times_held, loses_end, times_end_at, times_end, times_channels, loses_features, times_features, timed_out}
use Rattle.channel_model.specs.Giving.{connection_given, configuration_given, disconnection_given, setup_given, stage_given, counted, carrier_given, carrier_spent, held_given, queue_given, after_given, gives}
use Rattle.channel_model.specs.Calls.{can_connect, connected, asks_features, disconnected_at, disconnected_held, disconnected, carrier_with, sends_setup, sends_on, sends_held, sends}
use Rattle.own_channel_laws.specs.OwnTalk.{response_by}
use Rattle.own_channel_laws.specs.Agreements.{agreed_of}
use Rattle.own_channel_laws.proofs.Agreed.{carries-stated}
use Rattle.own_channel_laws.proofs.HandedUp.{heard-agreed}

-- by what the host has the channel, where it has accepted options
abbrev pub agreement_of : Setup → Option Agreed
agreement_of setup = option_map agreed_of setup.carrier

-- something of a channel that is there, by its PSM and own endpoint, that looks at no more of it than the parts of options so far, and
-- what was agreed on
pub record Lingers (S : (psm own : ℕ) → Setup → Type 0) : Type 0 where
  pub new : (psm own : ℕ) → S psm own no_setup
  pub same : (psm own : ℕ) (before after : Setup) → after.parts ≡ before.parts → agreement_of after ≡ agreement_of before → S psm own before → S psm own after

-- what a carrier does by itself
pub sent-agreed : (sdu : List ℕ) (carrier : Option Carrier) → option_map agreed_of (option_map (λ c. carrier_with c sdu) carrier) ≡ option_map agreed_of carrier
sent-agreed sdu None = refl
sent-agreed sdu (Some carrier) = ap Some (carries-stated.sends sdu carrier)

given_agreed : (carrier : Option Carrier) → option_map agreed_of (option_map carrier_given carrier) ≡ option_map agreed_of carrier
given_agreed None = refl
given_agreed (Some carrier) = ap Some (carries-stated.gives carrier)

module _ (S : (psm own : ℕ) → Setup → Type 0) (lingers : Lingers S) where
  abbrev pub StageHas : (psm own : ℕ) → Stage → Type 0
  StageHas psm own (Requested request) = Unit {0}
  StageHas psm own (Connected peer setup) = S psm own setup
  StageHas psm own (Leaving peer setup request) = S psm own setup
  StageHas psm own (Closing peer request checked) = Unit {0}
  StageHas psm own (Crossed peer request) = Unit {0}

  abbrev pub HeldHas : Held → Type 0
  HeldHas held = StageHas held.psm held.own held.stage

  abbrev pub Has : Channels → Type 0
  Has v = AllByRecursion HeldHas v.held

  pub either : (b : Bool) (x y : Channels) → Has x → Has y → Has (cond b x y)
  either true x y one other = one
  either false x y one other = other

  -- ---- what is found

  found_has : (p : Held → Bool) (held : List Held) (one : Held) → AllByRecursion HeldHas held → find p held ≡ Some one → HeldHas one
  found_has p [] one all is = cc
  found_has p (first ∷ held) one all is = by (p first) (found_has p held one all.1) is
    where
      by : (b : Bool) → (find p held ≡ Some one → HeldHas one) → cond b (Some first) (find p held) ≡ Some one → HeldHas one
      by true later is = subst HeldHas (let same : first ≡ one = cc in same) all.0
      by false later is = later is

  abbrev pub FoundHas : Option Held → Type 0
  FoundHas None = Unit {0}
  FoundHas (Some held) = HeldHas held

  pub has-found : (p : Held → Bool) (v : Channels) → Has v → FoundHas (find p v.held)
  has-found p v has = by (find p v.held) refl
    where
      by : (found : Option Held) → find p v.held ≡ found → FoundHas found
      by None is = tt
      by (Some held) is = found_has p v.held held has is

  abbrev pub SomeHas : (psm own : ℕ) → Option Setup → Type 0
  SomeHas psm own None = Unit {0}
  SomeHas psm own (Some setup) = S psm own setup

  pub setup-has : (psm own : ℕ) (stage : Stage) → StageHas psm own stage → SomeHas psm own (setup_of stage)
  setup-has psm own (Requested request) has = tt
  setup-has psm own (Connected peer setup) has = has
  setup-has psm own (Leaving peer setup request) has = has
  setup-has psm own (Closing peer request checked) has = tt
  setup-has psm own (Crossed peer request) has = tt

  -- ---- steps

  placed : (new : Held) (held : List Held) → HeldHas new → AllByRecursion HeldHas held → AllByRecursion HeldHas (map (in_place_of new) held)
  placed new [] now all = tt
  placed new (one ∷ held) now all = (by (eqb one.own new.own), placed new held now all.1)
    where
      by : (b : Bool) → HeldHas (cond b new one)
      by true = now
      by false = all.0

  staged : (held : Held) (stage : Stage) (v : Channels) → StageHas held.psm held.own stage → Has v → Has (to_stage held stage v)
  staged held stage v now has = placed (record held { stage = stage }) v.held now has

  with_stage : (psm own : ℕ) (stage : Stage) (setup : Setup) → S psm own setup → StageHas psm own (stage_with setup stage)
  with_stage psm own (Requested request) setup now = tt
  with_stage psm own (Connected peer before) setup now = now
  with_stage psm own (Leaving peer before request) setup now = now
  with_stage psm own (Closing peer request checked) setup now = tt
  with_stage psm own (Crossed peer request) setup now = tt

  pub set-up : (held : Held) (setup : Setup) (v : Channels) → S held.psm held.own setup → Has v → Has (to_setup held setup v)
  set-up held setup v now has = staged held (stage_with setup held.stage) v (with_stage held.psm held.own held.stage setup now) has

  less : (p : Held → Bool) (held : List Held) → AllByRecursion HeldHas held → AllByRecursion HeldHas (filter p held)
  less p [] all = tt
  less p (one ∷ held) all = by (p one) (less p held all.1)
    where
      by : (b : Bool) → AllByRecursion HeldHas (filter p held) → AllByRecursion HeldHas (cond b (one ∷ filter p held) (filter p held))
      by true rest = (all.0, rest)
      by false rest = rest

  left : (held : Held) (v : Channels) → Has v → Has (gone held v)
  left held v has = less (λ other. not (eqb other.own held.own)) v.held has

  more : (held : List Held) (one : Held) → AllByRecursion HeldHas held → HeldHas one → AllByRecursion HeldHas (held ++ one ∷ [])
  more [] one all now = (now, tt)
  more (other ∷ held) one all now = (all.0, more held one all.1 now)

  made : (psm : ℕ) (stage : Stage) (v : Channels) → StageHas psm v.next stage → Has v → Has (with_channel psm stage v)
  made psm stage v now has = more v.held (record { psm = psm; own = v.next; stage = stage }) has now

  pub asked : (held : Held) (setup : Setup) (options : Options) (v : Channels) → S held.psm held.own setup → Has v → Has (asks_options held setup options v)
  asked held setup options v now has =
      let after : Setup = record setup { own = Asking (new_request v) options } in
      set-up held after v (lingers.same held.psm held.own setup after refl refl now) has

  opened : (b : Bool) (held : Held) (v : Channels) → Has v → Has (opens_if b held v)
  opened true held v has = has
  opened false held v has = has

  granted : (held : Held) (setup : Setup) (v : Channels) → S held.psm held.own setup → Has v → Has (grants held setup v)
  granted held setup v now has = opened (is_some setup.carrier) held _ (set-up held (granted_setup setup) v (lingers.same held.psm held.own setup (granted_setup setup) refl refl now) has)

  pub accepted : (own : Own) (wish : Wish) (held : Held) (setup : Setup) (v : Channels) → S held.psm held.own setup → Has v → Has (accepts_with own wish held setup v)
  accepted Unasked wish held setup v now has = asked held setup (first_options wish) v now has
  accepted (Asking request options) wish held setup v now has = set-up held setup v now has
  accepted Granted wish held setup v now has = set-up held setup v now has

  -- ---- ends

  closed : (stage : Stage) (reason : CloseReason) (held : Held) (v : Channels) → Has v → Has (closes_at stage reason held v)
  closed (Requested request) reason held v has = left held v has
  closed (Connected peer setup) reason held v has = staged held (Closing peer (new_request v) (has_fcs_by setup)) v tt has
  closed (Leaving peer setup request) reason held v has = staged held (Closing peer request (has_fcs_by setup)) v tt has
  closed (Closing peer request checked) reason held v has = has
  closed (Crossed peer request) reason held v has = has

  peer_closed : (stage : Stage) (held : Held) (v : Channels) → Has v → Has (peer_closes_at stage held v)
  peer_closed (Requested request) held v has = has
  peer_closed (Connected peer setup) held v has = left held v has
  peer_closed (Leaving peer setup request) held v has = staged held (Crossed peer request) v tt has
  peer_closed (Closing peer request checked) held v has = staged held (Crossed peer request) v tt has
  peer_closed (Crossed peer request) held v has = has

  pub disconnection-has : (found : Option Held) (peer : ℕ) (v : Channels) → Has v → Has (follows_disconnection found peer v)
  disconnection-has None peer v has = has
  disconnection-has (Some held) peer v has = either (is_peer peer held.stage) (peer_closes_at held.stage held v) v (peer_closed held.stage held v has) has

  ended : (stage : Stage) (reason : CloseReason) (held : Held) (v : Channels) → Has v → Has (ends_at stage reason held v)
  ended (Requested request) reason held v has = has
  ended (Connected peer setup) reason held v has = has
  ended (Leaving peer setup request) reason held v has = left held v has
  ended (Closing peer request checked) reason held v has = left held v has
  ended (Crossed peer request) reason held v has = left held v has

  pub third : (held : Held) (setup : Setup) (v : Channels) → S held.psm held.own setup → Has v → Has (closes NoAgreement (with_setup held setup) (to_setup held setup v))
  third held setup v now has = closed (stage_with setup held.stage) NoAgreement (with_setup held setup) (to_setup held setup v) (set-up held setup v now has)

  -- ---- what the peer responds

  connected_to : (wish : Wish) (peer : ℕ) (held : Held) (v : Channels) → Has v → Has (connects wish peer held v)
  connected_to wish peer held v has = asked (record held { stage = Connected peer no_setup }) no_setup (first_options wish) (forgets (errands.Connection held.own) v) (lingers.new held.psm held.own) has

  answered : (policy : Policy) (endpoint result : ℕ) (held : Held) (v : Channels) → Has v → Has (hears_connected policy endpoint result held v)
  answered policy endpoint result held v has =
      either (eqb result 0) (cond (is_fresh_endpoint endpoint v) (connects (policy.wish held.psm) endpoint held v) v) (cond (eqb result 1) v (closes (Refused result) held v))
      (either (is_fresh_endpoint endpoint v) (connects (policy.wish held.psm) endpoint held v) v (connected_to (policy.wish held.psm) endpoint held v has) has)
      (either (eqb result 1) v (closes (Refused result) held v) has (closed held.stage (Refused result) held v has))

  grant_at : (stage : Stage) (policy : Policy) (identifier endpoint result : ℕ) (held : Held) (v : Channels) → Has v → Has (hears_grant_at stage policy identifier endpoint result held v)
  grant_at (Requested request) policy identifier endpoint result held v has = either (eqb request.identifier identifier) (hears_connected policy endpoint result held v) v (answered policy endpoint result held v has) has
  grant_at (Connected peer setup) policy identifier endpoint result held v has = has
  grant_at (Leaving peer setup request) policy identifier endpoint result held v has = has
  grant_at (Closing peer request checked) policy identifier endpoint result held v has = has
  grant_at (Crossed peer request) policy identifier endpoint result held v has = has

  pub grant-has : (found : Option Held) (policy : Policy) (identifier endpoint result : ℕ) (v : Channels) → Has v → Has (hears_grant found policy identifier endpoint result v)
  grant-has None policy identifier endpoint result v has = has
  grant-has (Some held) policy identifier endpoint result v has = grant_at held.stage policy identifier endpoint result held v has

  settled_has : (now : Settled) (held : Held) (setup : Setup) (v : Channels) → S held.psm held.own setup → Has v → Has (hears_settled now held setup v)
  settled_has Accepted held setup v so has = granted held setup v so has
  settled_has (Again options) held setup v so has =
      let after : Setup = renewed_setup setup in
      let renewed : S held.psm held.own after = lingers.same held.psm held.own setup after refl refl so in
      either (is_leaving held.stage || nat_le 3 after.renewed) (closes NoAgreement (with_setup held after) (to_setup held after v)) (asks_options held after options v) (third held after v renewed has) (asked held after options v renewed has)
  settled_has Wait held setup v so has = has
  settled_has Never held setup v so has = closed held.stage NoAgreement held v has

  options_has : (found : Result Options ConfigRefusal) (policy : Policy) (result : ℕ) (held : Held) (setup : Setup) (v : Channels) → S held.psm held.own setup → Has v → Has (hears_options found policy result held setup v)
  options_has (Ok options) policy result held setup v so has = settled_has (settled (policy.wish held.psm) result options) held setup v so has
  options_has (Err refusal) policy result held setup v so has = has

  response_on : (found : Option Setup) (policy : Policy) (identifier result : ℕ) (octets : List ℕ) (held : Held) (v : Channels) → SomeHas held.psm held.own found → Has v → Has (hears_response_on found policy identifier result octets held v)
  response_on None policy identifier result octets held v so has = has
  response_on (Some setup) policy identifier result octets held v so has =
      either (is_asked identifier setup.own) (hears_options (options_read octets) policy result held setup v) v (options_has (options_read octets) policy result held setup v so has) has

  pub response-has : (found : Option Held) (policy : Policy) (identifier result : ℕ) (octets : List ℕ) (v : Channels) → FoundHas found → Has v → Has (hears_response found policy identifier result octets v)
  response-has None policy identifier result octets v one has = has
  response-has (Some held) policy identifier result octets v one has = response_on (setup_of held.stage) policy identifier result octets held v (setup-has held.psm held.own held.stage one) has

  pub end-has : (found : Option Held) (peer : ℕ) (v : Channels) → Has v → Has (hears_end found peer v)
  end-has None peer v has = has
  end-has (Some held) peer v has = either (is_peer peer held.stage) (ends OwnClosed held v) v (ended held.stage OwnClosed held v has) has

  pub features-has : (identifier : ℕ) (given : Option ℕ) (v : Channels) → Has v → Has (hears_features identifier given v)
  features-has identifier given v has = either (has_identifier identifier v.features) _ v has has

  -- ---- what the peer asks

  pub says-has : (identifier : ℕ) (response : Option Content) (v : Channels) → Has v → Has (says identifier response v)
  says-has identifier None v has = has
  says-has identifier (Some content) v has = has

  pub again-has : (identifier : ℕ) (response : Option Content) (v : Channels) → Has v → Has (hears_again identifier response v)
  again-has identifier response v has = either (can_say response v) (says identifier response v) v (says-has identifier response v has) has

  -- something follows, where there is room for the answer
  anew_has : (kind : RequestKind) (identifier : ℕ) (response : Option Content) (more : Channels → Channels) (v : Channels) → (can_say response v ≡ true → (u : Channels) → Has u → Has (more u)) → Has v → Has (hears_new kind identifier response more v)
  anew_has kind identifier response more v goes has = by (can_say response v) refl
    where
      u : Channels
      u = says identifier response (remembers kind identifier response v)

      by : (can : Bool) → can_say response v ≡ can → Has (cond can (more u) v)
      by true can = goes can u (says-has identifier response (remembers kind identifier response v) has)
      by false can = has

  pub kind-has : (last : Option Remembered) (kind : RequestKind) (identifier : ℕ) (response : Option Content) (more : Channels → Channels) (v : Channels)
      → (response_by last identifier response ≡ response → can_say response v ≡ true → (u : Channels) → Has u → Has (more u)) → Has v → Has (hears_kind last kind identifier response more v)
  kind-has None kind identifier response more v goes has = anew_has kind identifier response more v (goes refl) has
  kind-has (Some last) kind identifier response more v goes has = by (eqb last.identifier identifier) refl
    where
      by : (same : Bool) → eqb last.identifier identifier ≡ same → Has (cond same (hears_again identifier last.response v) (hears_new kind identifier response more v))
      by true same = again-has identifier last.response v has
      by false apart = anew_has kind identifier response more v (goes (ap (λ b. cond b last.response response) apart)) has

  pub request-has : (kind : RequestKind) (identifier : ℕ) (response : Option Content) (more : Channels → Channels) (v : Channels) → ((u : Channels) → Has u → Has (more u)) → Has v → Has (hears_request kind identifier response more v)
  request-has kind identifier response more v goes has = kind-has (remembered kind v.memory) kind identifier response more v (λ same can. goes) has

  pub connection-has : (result psm source : ℕ) (v : Channels) → Has v → Has (follows_connection result psm source v)
  connection-has result psm source v has = either (eqb result 0) (with_channel psm (Connected source no_setup) v) v (made psm (Connected source no_setup) v (lingers.new psm v.next) has) has

  malformed_has : (kind : Option RequestKind) (identifier : ℕ) (v : Channels) → Has v → Has (hears_malformed kind identifier v)
  malformed_has None identifier v has = has
  malformed_has (Some kind) identifier v has = request-has kind identifier (Some not_understood) (λ w. w) v (λ u now. now) has

  unread_has : (code identifier : ℕ) (v : Channels) → Has v → Has (hears_unread code identifier v)
  unread_has code identifier v has =
      let malformed : Channels = hears_malformed (kind_of_code code) identifier v in
      let again : Channels = hears_again identifier (Some not_understood) v in
      either (eqb identifier 0) v (cond (is_response_code code) v (cond (is_kind (kind_of_code code)) malformed again)) has
      (either (is_response_code code) v (cond (is_kind (kind_of_code code)) malformed again) has
      (either (is_kind (kind_of_code code)) malformed again (malformed_has (kind_of_code code) identifier v has) (again-has identifier (Some not_understood) v has)))

  pub refused-has : (refusal : SignalRefusal) (v : Channels) → Has v → Has (hears_refused refusal v)
  refused-has (ZeroIdentifier code identifier) v has = has
  refused-has (BadLength code None) v has = has
  refused-has (BadLength code (Some identifier)) v has = unread_has code identifier v has
  refused-has (UnknownCode code None) v has = has
  refused-has (UnknownCode code (Some identifier)) v has = unread_has code identifier v has
  refused-has (AboveMtu code None) v has = has
  refused-has (AboveMtu code (Some identifier)) v has = either (eqb identifier 0) v (hears_again identifier (Some too_long) v) has (again-has identifier (Some too_long) v has)

  -- ---- a PDU on a channel

  settles_has : (reason : Option ErtmReason) (machine : Ertm) (held : Held) (setup : Setup) (v : Channels) → (reason ≡ None → Some machine.agreed ≡ agreement_of setup) → S held.psm held.own setup → Has v → Has (settles_machine reason machine held setup v)
  settles_has None machine held setup v agreed so has =
      let after : Setup = record setup { carrier = Some (Retransmitting machine) } in set-up held after v (lingers.same held.psm held.own setup after refl (agreed refl) so) has
  settles_has (Some reason) machine held setup v agreed so has = closed held.stage (reason_of reason) held v has

  carries_has : (carrier : Carrier) (pdu : List ℕ) (held : Held) (setup : Setup) (v : Channels) → setup.carrier ≡ Some carrier → S held.psm held.own setup → Has v → Has (carries carrier pdu held setup v)
  carries_has (Plain agreed waiting) pdu held setup v is so has = has
  carries_has (Retransmitting machine) pdu held setup v is so has =
      let after : Ertm = machine_heard (read_by machine pdu) machine in
      settles_has after.closed after held setup v (λ open'. ap Some (heard-agreed (read_by machine pdu) machine) ∙ sym (ap (option_map agreed_of) is)) so has

  opens_has : (own : Own) (held : Held) (setup : Setup) (v : Channels) → S held.psm held.own setup → Has v → Has (opens_with own held setup v)
  opens_has Unasked held setup v so has = has
  opens_has (Asking request options) held setup v so has = granted held setup v so has
  opens_has Granted held setup v so has = has

  taken_with : (carrier : Option Carrier) (pdu : List ℕ) (held : Held) (setup : Setup) (v : Channels) → setup.carrier ≡ carrier → S held.psm held.own setup → Has v → Has (takes_with carrier pdu held setup v)
  taken_with None pdu held setup v is so has = has
  taken_with (Some carrier) pdu held setup v is so has =
      let now : Setup = granted_setup setup in
      let u : Channels = opens_with setup.own held setup v in
      either (is_taken_with setup.own carrier pdu) (carries carrier pdu (with_setup held now) now u) v
      (carries_has carrier pdu (with_setup held now) now u is (lingers.same held.psm held.own setup now refl refl so) (opens_has setup.own held setup v so has)) has

  taken_on : (found : Option Setup) (pdu : List ℕ) (held : Held) (v : Channels) → SomeHas held.psm held.own found → Has v → Has (takes_on found pdu held v)
  taken_on None pdu held v so has = has
  taken_on (Some setup) pdu held v so has = taken_with setup.carrier pdu held setup v refl so has

  taken_held : (found : Option Held) (pdu : List ℕ) (v : Channels) → FoundHas found → Has v → Has (takes_held found pdu v)
  taken_held None pdu v one has = has
  taken_held (Some held) pdu v one has = taken_on (setup_of held.stage) pdu held v (setup-has held.psm held.own held.stage one) has

  pub takes-has : (own : ℕ) (pdu : List ℕ) (v : Channels) → Has v → Has (takes own pdu v)
  takes-has own pdu v has = taken_held (held_at own v) pdu v (has-found (has_own own) v has) has

  -- ---- what the host does by itself

  pub connects-has : (psm : ℕ) (v : Channels) → Has v → Has (connected psm v)
  connects-has psm v has = either (can_connect v) (asks (errands.Connection v.next) (with_channel psm (Requested (new_request v)) v)) v (made psm (Requested (new_request v)) v tt has) has

  pub asks-has : (v : Channels) → Has v → Has (asks_features v)
  asks-has v has = either (is_some v.features) v (asks errands.Features (record v { features = Some (new_request v) })) has has

  left_at : (stage : Stage) (held : Held) (v : Channels) → StageHas held.psm held.own stage → Has v → Has (disconnected_at stage held v)
  left_at (Requested request) held v now has = closed held.stage OwnClosed held v has
  left_at (Connected peer setup) held v now has = staged held (Leaving peer setup (new_request v)) v now has
  left_at (Leaving peer setup request) held v now has = has
  left_at (Closing peer request checked) held v now has = has
  left_at (Crossed peer request) held v now has = has

  left_held : (found : Option Held) (v : Channels) → FoundHas found → Has v → Has (disconnected_held found v)
  left_held None v one has = has
  left_held (Some held) v one has = left_at held.stage held v one has

  pub disconnects-has : (own : ℕ) (v : Channels) → Has v → Has (disconnected own v)
  disconnects-has own v has = left_held (held_at own v) v (has-found (has_own own) v has) has

  sent_setup : (psm own : ℕ) (setup : Setup) (sdu : List ℕ) → S psm own setup → S psm own (sends_setup setup sdu)
  sent_setup psm own setup sdu so = by (is_open setup)
    where
      after : Setup
      after = record setup { carrier = option_map (λ carrier. carrier_with carrier sdu) setup.carrier }

      by : (b : Bool) → S psm own (cond b after setup)
      by true = lingers.same psm own setup after refl (sent-agreed sdu setup.carrier) so
      by false = so

  sent_on : (found : Option Setup) (sdu : List ℕ) (held : Held) (v : Channels) → SomeHas held.psm held.own found → Has v → Has (sends_on found sdu held v)
  sent_on None sdu held v so has = has
  sent_on (Some setup) sdu held v so has = set-up held (sends_setup setup sdu) v (sent_setup held.psm held.own setup sdu so) has

  sent_held : (found : Option Held) (sdu : List ℕ) (v : Channels) → FoundHas found → Has v → Has (sends_held found sdu v)
  sent_held None sdu v one has = has
  sent_held (Some held) sdu v one has = sent_on (setup_of held.stage) sdu held v (setup-has held.psm held.own held.stage one) has

  pub sends-has : (own : ℕ) (sdu : List ℕ) (v : Channels) → Has v → Has (sends own sdu v)
  sends-has own sdu v has = sent_held (held_at own v) sdu v (has-found (has_own own) v has) has

  -- ---- the next PDU

  connection_counted : (psm own : ℕ) (stage : Stage) → StageHas psm own stage → StageHas psm own (connection_given stage)
  connection_counted psm own (Requested request) has = tt
  connection_counted psm own (Connected peer setup) has = has
  connection_counted psm own (Leaving peer setup request) has = has
  connection_counted psm own (Closing peer request checked) has = tt
  connection_counted psm own (Crossed peer request) has = tt

  configuration_counted : (psm own : ℕ) (stage : Stage) → StageHas psm own stage → StageHas psm own (configuration_given stage)
  configuration_counted psm own (Requested request) has = tt
  configuration_counted psm own (Connected peer setup) has = lingers.same psm own setup (setup_given setup) refl refl has
  configuration_counted psm own (Leaving peer setup request) has = lingers.same psm own setup (setup_given setup) refl refl has
  configuration_counted psm own (Closing peer request checked) has = tt
  configuration_counted psm own (Crossed peer request) has = tt

  disconnection_counted : (psm own : ℕ) (stage : Stage) → StageHas psm own stage → StageHas psm own (disconnection_given stage)
  disconnection_counted psm own (Requested request) has = tt
  disconnection_counted psm own (Connected peer setup) has = has
  disconnection_counted psm own (Leaving peer setup request) has = has
  disconnection_counted psm own (Closing peer request checked) has = tt
  disconnection_counted psm own (Crossed peer request) has = tt

  stage_counted : (f : Stage → Stage) (found : Option Held) (v : Channels) → ((psm own : ℕ) (stage : Stage) → StageHas psm own stage → StageHas psm own (f stage)) → FoundHas found → Has v → Has (stage_given f found v)
  stage_counted f None v keeps one has = has
  stage_counted f (Some held) v keeps one has = staged held (f held.stage) v (keeps held.psm held.own held.stage one) has

  counted_has : (errand : Errand) (v : Channels) → Has v → Has (counted errand v)
  counted_has (errands.Connection own) v has = stage_counted connection_given (held_at own v) v connection_counted (has-found (has_own own) v has) has
  counted_has (errands.Configuration own) v has = stage_counted configuration_given (held_at own v) v configuration_counted (has-found (has_own own) v has) has
  counted_has (errands.Disconnection own) v has = stage_counted disconnection_given (held_at own v) v disconnection_counted (has-found (has_own own) v has) has
  counted_has errands.Features v has = has

  spent_has : (found : Option Setup) (held : Held) (v : Channels) → SomeHas held.psm held.own found → Has v → Has (carrier_spent found held v)
  spent_has None held v so has = has
  spent_has (Some setup) held v so has =
      let after : Setup = record setup { carrier = option_map carrier_given setup.carrier } in set-up held after v (lingers.same held.psm held.own setup after refl (given_agreed setup.carrier) so) has

  given_held : (found : Option Held) (v : Channels) → FoundHas found → Has v → Has (held_given found v)
  given_held None v one has = has
  given_held (Some held) v one has = spent_has (setup_of held.stage) held v (setup-has held.psm held.own held.stage one) has

  queue_has : (queue : List Queued) (v : Channels) → Has v → Has (queue_given queue v)
  queue_has [] v has = given_held (find gives v.held) v (has-found gives v has) has
  queue_has (Answer command ∷ behind) v has = has
  queue_has (Ask errand ∷ behind) v has = counted_has errand (record v { queue = behind }) has

  pub gives-has : (v : Channels) → Has v → Has (after_given v)
  gives-has v has = queue_has v.queue v has

  -- ---- the timer

  fires_has : (now : Fired) (errand : Errand) (spent : Channels → Channels) (v : Channels) → Has (spent v) → Has v → Has (fires now errand spent v)
  fires_has StillDue errand spent v goes has = has
  fires_has OnceMore errand spent v goes has = has
  fires_has Spent errand spent v goes has = goes

  timed_carrier : (carrier : Option Carrier) (held : Held) (setup : Setup) (v : Channels) → setup.carrier ≡ carrier → S held.psm held.own setup → Has v → Has (times_carrier carrier held setup v)
  timed_carrier None held setup v is so has = has
  timed_carrier (Some (Plain agreed waiting)) held setup v is so has = has
  timed_carrier (Some (Retransmitting machine)) held setup v is so has =
      settles_has (timed machine).closed (timed machine) held setup v (λ open'. ap Some (carries-stated.fires machine open') ∙ sym (ap (option_map agreed_of) is)) so has

  timed_setup : (own : Own) (tries : ℕ) (held : Held) (setup : Setup) (v : Channels) → S held.psm held.own setup → Has v → Has (times_setup own tries held setup v)
  timed_setup Unasked tries held setup v so has = timed_carrier setup.carrier held setup v refl so has
  timed_setup (Asking request options) tries held setup v so has =
      fires_has (fired tries (errands.Configuration held.own) request v) (errands.Configuration held.own) (closes RetryLimit held) v (closed held.stage RetryLimit held v has) has
  timed_setup Granted tries held setup v so has = timed_carrier setup.carrier held setup v refl so has

  timed_stage : (stage : Stage) (tries : ℕ) (held : Held) (v : Channels) → StageHas held.psm held.own stage → Has v → Has (times_stage stage tries held v)
  timed_stage (Requested request) tries held v now has = fires_has (fired tries (errands.Connection held.own) request v) (errands.Connection held.own) (closes RetryLimit held) v (closed held.stage RetryLimit held v has) has
  timed_stage (Connected peer setup) tries held v now has = timed_setup setup.own tries held setup v now has
  timed_stage (Leaving peer setup request) tries held v now has = timed_setup setup.own tries held setup v now has
  timed_stage (Closing peer request checked) tries held v now has = has
  timed_stage (Crossed peer request) tries held v now has = has

  timed_held : (found : Option Held) (tries : ℕ) (v : Channels) → FoundHas found → Has v → Has (times_held found tries v)
  timed_held None tries v one has = has
  timed_held (Some held) tries v one has = timed_stage held.stage tries held v one has

  end_times : (stage : Stage) (tries : ℕ) (held : Held) (v : Channels) → Has v → Has (times_end_at stage tries held v)
  end_times (Requested request) tries held v has = has
  end_times (Connected peer setup) tries held v has = has
  end_times (Leaving peer setup request) tries held v has = fires_has (fired tries (errands.Disconnection held.own) request v) (errands.Disconnection held.own) (ends RetryLimit held) v (ended held.stage RetryLimit held v has) has
  end_times (Closing peer request checked) tries held v has = fires_has (fired tries (errands.Disconnection held.own) request v) (errands.Disconnection held.own) (loses_end held) v (ended held.stage RetryLimit held v has) has
  end_times (Crossed peer request) tries held v has = fires_has (fired tries (errands.Disconnection held.own) request v) (errands.Disconnection held.own) (loses_end held) v (ended held.stage RetryLimit held v has) has

  end_held : (found : Option Held) (tries : ℕ) (v : Channels) → Has v → Has (times_end found tries v)
  end_held None tries v has = has
  end_held (Some held) tries v has = end_times held.stage tries held v has

  channels_timed : (tries : ℕ) (owns : List ℕ) (v : Channels) → Has v → Has (times_channels tries owns v)
  channels_timed tries [] v has = has
  channels_timed tries (own ∷ owns) v has =
      let between : Channels = times_held (held_at own v) tries v in
      let after : Channels = times_end (held_at own between) tries between in
      channels_timed tries owns after (end_held (held_at own between) tries between (timed_held (held_at own v) tries v (has-found (has_own own) v has) has))

  features_timed : (features : Option Request) (tries : ℕ) (v : Channels) → Has v → Has (times_features features tries v)
  features_timed None tries v has = has
  features_timed (Some request) tries v has = fires_has (fired tries errands.Features request v) errands.Features loses_features v has has

  pub times-has : (policy : Policy) (v : Channels) → Has v → Has (timed_out policy v)
  times-has policy v has =
      let after : Channels = times_channels policy.tries (map (λ held. held.own) v.held) v in features_timed after.features policy.tries after (channels_timed policy.tries (map (λ held. held.own) v.held) v has)

-- from the one to another
pub has-also : (S : (psm own : ℕ) → Setup → Type 0) (one : Lingers S) (T : (psm own : ℕ) → Setup → Type 0) (other : Lingers T) → ((psm own : ℕ) (setup : Setup) → S psm own setup → T psm own setup) → (v : Channels) → Has S one v → Has T other v
has-also S one T other also v = by v.held
  where
    at : (psm own : ℕ) (stage : Stage) → StageHas S one psm own stage → StageHas T other psm own stage
    at psm own (Requested request) has = tt
    at psm own (Connected peer setup) has = also psm own setup has
    at psm own (Leaving peer setup request) has = also psm own setup has
    at psm own (Closing peer request checked) has = tt
    at psm own (Crossed peer request) has = tt

    by : (held : List Held) → AllByRecursion (HeldHas S one) held → AllByRecursion (HeldHas T other) held
    by [] all = tt
    by (first ∷ held) (now, all) = (at first.psm first.own first.stage now, by held all)
