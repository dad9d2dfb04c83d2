-- The channels of a host have endpoints, PSMs and identifiers that fit their fields, whatever happens.
use Rattle.std.proofs.Common.{◌≡◌, ℕ, ◌+◌, ◌^◌, ◌<◌, ◌≤◌, List, [], ◌∷◌, ◌++◌, map, Bool, true, false, cond, eqb, not, Option, Some, None, Result, Ok, Err, refl, subst, arith, ◌||◌}
use Rattle.std.specs.Prelude.{find, filter, nat_le, ◌&&◌, is_some, option_map}
use Rattle.std.specs.List.{AllByRecursion}
use Rattle.std.proofs.lemmas.Bool.{leb-true}
use Rattle.talk_laws.specs.l2cap_config.specs.declared.options.Options.{Options}
use Rattle.talk_laws.specs.l2cap_config.specs.declared.options.ConfigRefusal.{ConfigRefusal}
use Rattle.talk_laws.specs.l2cap_config.specs.declared.agreement.ConfigAnswer.{ConfigAnswer}
use Rattle.talk_laws.specs.l2cap_config.specs.declared.agreement.ConfigAnswer.TheVariants.{Accept, Unacceptable, Unknown}
use Rattle.talk_laws.specs.l2cap_config.specs.declared.agreement.Settled.{Settled}
use Rattle.talk_laws.specs.l2cap_config.specs.declared.agreement.Settled.TheVariants.{Accepted, Again, Wait, Never}
use Rattle.talk_laws.specs.l2cap_config.specs.declared.wish.Wish.{Wish}
use Rattle.talk_laws.specs.l2cap_config.specs.Types.{AreUnknown}
use Rattle.talk_laws.specs.l2cap_config.specs.Agreement.{settled}
use Rattle.talk_laws.specs.l2cap_config.specs.Reading.{options_read}
use Rattle.talk_laws.specs.l2cap_config.proofs.TypeLists.{unknown_none}
use Rattle.channel_model.specs.ertm_model.specs.declared.reason.ErtmReason.{ErtmReason}
use Rattle.channel_model.specs.ertm_model.specs.Value.{Ertm}
use Rattle.channel_model.specs.ertm_model.specs.Giving.{timed}
use Rattle.channel_model.specs.declared.errand.Errand.{Errand}
use Rattle.channel_model.specs.declared.errand.Errand.TheVariants as errands
use Rattle.channel_model.specs.declared.event.CloseReason.{CloseReason}
use Rattle.channel_model.specs.declared.event.CloseReason.TheVariants.{NoAgreement, Refused, OwnClosed, RetryLimit}
use Rattle.channel_model.specs.Value.{Request, Queued, Answer, Ask, Own, Unasked, Asking, Granted, Carrier, Plain, Retransmitting, Setup, no_setup, Stage, Requested, Connected, Leaving, Closing, Crossed, Held, Channels}
use Rattle.channel_model.specs.Policies.{Policy}
use Rattle.channel_model.specs.Changing.{has_own, in_place_of, held_at, is_peer, to_stage, gone, setup_of, has_fcs_by, is_open, stage_with, with_setup, to_setup, is_leaving}
use Rattle.channel_model.specs.Asking.{next_identifier, new_request, asks, asks_options, Fired, StillDue, OnceMore, Spent, fired}
use Rattle.channel_model.specs.Closing.{closes, closes_at, peer_closes_at, ends, ends_at}
use Rattle.channel_model.specs.Configuring.{accepted_setup, accepts_with, without_parts, refused_setup, follows_answer, opens_if, granted_setup, grants}
use Rattle.channel_model.specs.Responses.{is_fresh_endpoint, connects, hears_connected, hears_grant_at, hears_grant, renewed_setup, hears_settled, hears_options, is_asked, hears_response_on, hears_response, hears_end}
use Rattle.channel_model.specs.Carrying.{reason_of, settles_machine, machine_heard, read_by, carries, is_taken_with, opens_with, takes_with, takes_on, takes_held, takes}
use Rattle.channel_model.specs.Timing.{fires, times_carrier, times_setup, times_stage, times_held, times_end_at, times_end}
use Rattle.channel_model.specs.Giving.{own_given, connection_given, configuration_given, disconnection_given, stage_given, counted, carrier_given, carrier_spent, held_given, queue_given, after_given, gives}
use Rattle.channel_model.specs.Following.{with_channel}
use Rattle.channel_model.specs.Calls.{can_connect, connected, disconnected_at, disconnected_held, disconnected, carrier_with, sends_setup, sends_on, sends_held, sends}

-- ---- a channel

-- an endpoint that a channel can have
abbrev pub IsEndpoint : ℕ → Type 0
IsEndpoint endpoint = (0x0040 ≤ endpoint) × (endpoint < 2 ^ 16)

abbrev pub IsNumbered : Request → Type 0
IsNumbered request = 0 < request.identifier

abbrev pub FitsOwn : Own → Type 0
FitsOwn Unasked = Unit {0}
FitsOwn (Asking request options) = IsNumbered request
FitsOwn Granted = Unit {0}

pub record FitsSetup (setup : Setup) : Type 0 where
  pub own : FitsOwn setup.own
  pub parts : AreUnknown setup.parts.unknown

abbrev pub FitsStage : Stage → Type 0
FitsStage (Requested request) = IsNumbered request
FitsStage (Connected peer setup) = IsEndpoint peer × FitsSetup setup
FitsStage (Leaving peer setup request) = IsEndpoint peer × FitsSetup setup × IsNumbered request
FitsStage (Closing peer request checked) = IsEndpoint peer × IsNumbered request
FitsStage (Crossed peer request) = IsEndpoint peer × IsNumbered request

abbrev pub FitsSome : Option Setup → Type 0
FitsSome None = Unit {0}
FitsSome (Some setup) = FitsSetup setup

pub setup-fits : (stage : Stage) → FitsStage stage → FitsSome (setup_of stage)
setup-fits (Requested request) fits = tt
setup-fits (Connected peer setup) fits = fits.1
setup-fits (Leaving peer setup request) fits = fits.1
setup-fits (Closing peer request checked) fits = tt
setup-fits (Crossed peer request) fits = tt

pub next-some : (n : ℕ) → 0 < next_identifier n
next-some n = by (eqb n 255)
  where
    by : (b : Bool) → 0 < cond b 1 (n + 1)
    by true = omega arith
    by false = omega arith

-- ---- all of a link, where `F` is what is asked of a PSM

module _ (F : ℕ → Type 0) where
  pub record FitsHeld (held : Held) : Type 0 where
    pub psm : F held.psm
    pub own : IsEndpoint held.own
    pub stage : FitsStage held.stage

  -- ---- all of a link

  pub record FitsAll (channels : List Held) (number next : ℕ) : Type 0 where
    pub held : AllByRecursion FitsHeld channels
    pub identifier : 0 < number
    pub low : 0x0040 ≤ next
    pub high : next ≤ 2 ^ 16

  abbrev pub Fits : Channels → Type 0
  Fits v = FitsAll v.held v.identifier v.next

  pub either : (b : Bool) (x y : Channels) → Fits x → Fits y → Fits (cond b x y)
  either true x y one other = one
  either false x y one other = other

  -- ---- what is found

  found_fits : (p : Held → Bool) (held : List Held) (one : Held) → AllByRecursion FitsHeld held → find p held ≡ Some one → FitsHeld one
  found_fits p [] one all is = cc
  found_fits p (first ∷ held) one all is = by (p first) (found_fits p held one all.1) is
    where
      by : (b : Bool) → (find p held ≡ Some one → FitsHeld one) → cond b (Some first) (find p held) ≡ Some one → FitsHeld one
      by true later is = subst FitsHeld (let same : first ≡ one = cc in same) all.0
      by false later is = later is

  abbrev pub FitsFound : Option Held → Type 0
  FitsFound None = Unit {0}
  FitsFound (Some held) = FitsHeld held

  pub fits-found : (p : Held → Bool) (v : Channels) → Fits v → FitsFound (find p v.held)
  fits-found p v fits = by (find p v.held) refl
    where
      by : (found : Option Held) → find p v.held ≡ found → FitsFound found
      by None is = tt
      by (Some held) is = found_fits p v.held held fits.held is

  -- ---- steps

  -- behind an own request
  asked : {held : List Held} {number next : ℕ} → FitsAll held number next → FitsAll held (next_identifier number) next
  asked {held} {number} fits = record { held = fits.held; identifier = next-some number; low = fits.low; high = fits.high }

  placed : (new : Held) (held : List Held) → FitsHeld new → AllByRecursion FitsHeld held → AllByRecursion FitsHeld (map (in_place_of new) held)
  placed new [] fits all = tt
  placed new (one ∷ held) fits all = (by (eqb one.own new.own), placed new held fits all.1)
    where
      by : (b : Bool) → FitsHeld (cond b new one)
      by true = fits
      by false = all.0

  staged : (held : Held) (stage : Stage) (v : Channels) → FitsHeld held → FitsStage stage → Fits v → Fits (to_stage held stage v)
  staged held stage v one now fits = record {
    held = placed (record held { stage = stage }) v.held (record { psm = one.psm; own = one.own; stage = now }) fits.held;
    identifier = fits.identifier;
    low = fits.low;
    high = fits.high;
  }

  with_stage : (stage : Stage) (setup : Setup) → FitsSetup setup → FitsStage stage → FitsStage (stage_with setup stage)
  with_stage (Requested request) setup now fits = fits
  with_stage (Connected peer before) setup now fits = (fits.0, now)
  with_stage (Leaving peer before request) setup now fits = (fits.0, now, fits.2)
  with_stage (Closing peer request checked) setup now fits = fits
  with_stage (Crossed peer request) setup now fits = fits

  set_up : (held : Held) (setup : Setup) (v : Channels) → FitsHeld held → FitsSetup setup → Fits v → Fits (to_setup held setup v)
  set_up held setup v one now fits = staged held (stage_with setup held.stage) v one (with_stage held.stage setup now one.stage) fits

  held_with : (held : Held) (setup : Setup) → FitsHeld held → FitsSetup setup → FitsHeld (with_setup held setup)
  held_with held setup one now = record { psm = one.psm; own = one.own; stage = with_stage held.stage setup now one.stage }

  less : (p : Held → Bool) (held : List Held) → AllByRecursion FitsHeld held → AllByRecursion FitsHeld (filter p held)
  less p [] all = tt
  less p (one ∷ held) all = by (p one) (less p held all.1)
    where
      by : (b : Bool) → AllByRecursion FitsHeld (filter p held) → AllByRecursion FitsHeld (cond b (one ∷ filter p held) (filter p held))
      by true rest = (all.0, rest)
      by false rest = rest

  left : (held : Held) (v : Channels) → Fits v → Fits (gone held v)
  left held v fits = record { held = less (λ other. not (eqb other.own held.own)) v.held fits.held; identifier = fits.identifier; low = fits.low; high = fits.high }

  more : (held : List Held) (one : Held) → AllByRecursion FitsHeld held → FitsHeld one → AllByRecursion FitsHeld (held ++ one ∷ [])
  more [] one all now = (now, tt)
  more (other ∷ held) one all now = (all.0, more held one all.1 now)

  pub made : (psm : ℕ) (stage : Stage) (v : Channels) → F psm → FitsStage stage → v.next ≤ 0xFFFF → Fits v → Fits (with_channel psm stage v)
  made psm stage v small now few fits =
      let low = fits.low in
      record {
        held = more v.held (record { psm = psm; own = v.next; stage = stage }) fits.held (record { psm = small; own = (low, omega arith); stage = now });
        identifier = fits.identifier;
        low = omega arith;
        high = omega arith;
      }

  -- ---- options

  asks_own : (setup : Setup) (options : Options) (v : Channels) → Fits v → FitsSetup setup → FitsSetup (record setup { own = Asking (new_request v) options })
  asks_own setup options v fits now = record { own = fits.identifier; parts = now.parts }

  options_asked : (held : Held) (setup : Setup) (options : Options) (v : Channels) → FitsHeld held → FitsSetup setup → Fits v → Fits (asks_options held setup options v)
  options_asked held setup options v one now fits =
      let own = record setup { own = Asking (new_request v) options } in
      asked (set_up held own v one (asks_own setup options v fits now) fits)

  opened : (b : Bool) (held : Held) (v : Channels) → Fits v → Fits (opens_if b held v)
  opened true held v fits = fits
  opened false held v fits = fits

  granted : (held : Held) (setup : Setup) (v : Channels) → FitsHeld held → FitsSetup setup → Fits v → Fits (grants held setup v)
  granted held setup v one now fits =
      let u : Channels = to_setup held (granted_setup setup) v in
      opened (is_some setup.carrier) held _ (set_up held (granted_setup setup) v one (record { own = tt; parts = now.parts }) fits)

  -- ---- ends

  pub closed : (stage : Stage) (reason : CloseReason) (held : Held) (v : Channels) → FitsStage stage → FitsHeld held → Fits v → Fits (closes_at stage reason held v)
  closed (Requested request) reason held v now one fits = left held v fits
  closed (Connected peer setup) reason held v now one fits =
      let r : Request = new_request v in
      asked (staged held (Closing peer r (has_fcs_by setup)) v one (now.0, fits.identifier) fits)
  closed (Leaving peer setup request) reason held v now one fits = staged held (Closing peer request (has_fcs_by setup)) v one (now.0, now.2) fits
  closed (Closing peer request checked) reason held v now one fits = fits
  closed (Crossed peer request) reason held v now one fits = fits

  pub peer_closed : (stage : Stage) (held : Held) (v : Channels) → FitsStage stage → FitsHeld held → Fits v → Fits (peer_closes_at stage held v)
  peer_closed (Requested request) held v now one fits = fits
  peer_closed (Connected peer setup) held v now one fits = left held v fits
  peer_closed (Leaving peer setup request) held v now one fits = staged held (Crossed peer request) v one (now.0, now.2) fits
  peer_closed (Closing peer request checked) held v now one fits = staged held (Crossed peer request) v one now fits
  peer_closed (Crossed peer request) held v now one fits = fits

  ended : (stage : Stage) (reason : CloseReason) (held : Held) (v : Channels) → Fits v → Fits (ends_at stage reason held v)
  ended (Requested request) reason held v fits = fits
  ended (Connected peer setup) reason held v fits = fits
  ended (Leaving peer setup request) reason held v fits = left held v fits
  ended (Closing peer request checked) reason held v fits = left held v fits
  ended (Crossed peer request) reason held v fits = left held v fits

  third : (held : Held) (setup : Setup) (v : Channels) → FitsHeld held → FitsSetup setup → Fits v → Fits (closes NoAgreement (with_setup held setup) (to_setup held setup v))
  third held setup v one now fits =
      let after = held_with held setup one now in
      closed (stage_with setup held.stage) NoAgreement (with_setup held setup) (to_setup held setup v) after.stage after (set_up held setup v one now fits)

  -- ---- what follows from the peer's request for options

  pub accepted : (own : Own) (wish : Wish) (held : Held) (setup : Setup) (v : Channels) → FitsHeld held → FitsSetup setup → Fits v → Fits (accepts_with own wish held setup v)
  accepted Unasked wish held setup v one now fits = options_asked held setup _ v one now fits
  accepted (Asking request options) wish held setup v one now fits = set_up held setup v one now fits
  accepted Granted wish held setup v one now fits = set_up held setup v one now fits

  without : (setup : Setup) → FitsSetup setup → FitsSetup (without_parts setup)
  without setup now = record { own = now.own; parts = unknown_none }

  pub followed : (answer : ConfigAnswer) (wish : Wish) (options : Options) (held : Held) (setup : Setup) (v : Channels) → FitsHeld held → FitsSetup setup → Fits v → Fits (follows_answer answer wish options held setup v)
  followed (Accept given) wish options held setup v one now fits = accepted setup.own wish held (accepted_setup wish options setup) v one (record { own = now.own; parts = unknown_none }) fits
  followed (Unacceptable refusal given) wish options held setup v one now fits =
      let after : Setup = refused_setup setup in
      let so : FitsSetup after = record { own = now.own; parts = unknown_none } in
      either (nat_le 3 after.refused) (closes NoAgreement (with_setup held after) (to_setup held after v)) (to_setup held after v) (third held after v one so fits) (set_up held after v one so fits)
  followed Unknown wish options held setup v one now fits = set_up held (without_parts setup) v one (without setup now) fits

  pub parted : (held : Held) (setup : Setup) (options : Options) (v : Channels) → FitsHeld held → FitsSetup setup → AreUnknown options.unknown → Fits v → Fits (to_setup held (record setup { parts = options }) v)
  parted held setup options v one now unknown fits = set_up held (record setup { parts = options }) v one (record { own = now.own; parts = unknown }) fits

  pub unread : (held : Held) (setup : Setup) (v : Channels) → FitsHeld held → FitsSetup setup → Fits v → Fits (to_setup held (without_parts setup) v)
  unread held setup v one now fits = set_up held (without_parts setup) v one (without setup now) fits

  -- ---- what the peer responds

  connected_to : (wish : Wish) (peer : ℕ) (held : Held) (v : Channels) → IsEndpoint peer → FitsHeld held → Fits v → Fits (connects wish peer held v)
  connected_to wish peer held v there one fits =
      let new : FitsSetup no_setup = record { own = tt; parts = unknown_none } in
      options_asked (record held { stage = Connected peer no_setup }) no_setup _ v (record { psm = one.psm; own = one.own; stage = (there, new) }) new fits

  and_one : (a b : Bool) → (a && b) ≡ true → a ≡ true
  and_one true b is = refl
  and_one false b is = cc

  answered : (policy : Policy) (endpoint result : ℕ) (held : Held) (v : Channels) → endpoint < 2 ^ 16 → FitsHeld held → Fits v → Fits (hears_connected policy endpoint result held v)
  answered policy endpoint result held v small one fits =
      either (eqb result 0) (cond (is_fresh_endpoint endpoint v) (connects (policy.wish held.psm) endpoint held v) v) (cond (eqb result 1) v (closes (Refused result) held v))
      (by (is_fresh_endpoint endpoint v) refl) (either (eqb result 1) v (closes (Refused result) held v) fits (closed held.stage (Refused result) held v one.stage one fits))
    where
      by : (b : Bool) → is_fresh_endpoint endpoint v ≡ b → Fits (cond b (connects (policy.wish held.psm) endpoint held v) v)
      by true is = connected_to (policy.wish held.psm) endpoint held v (leb-true 0x0040 endpoint (and_one (nat_le 0x0040 endpoint) _ is), small) one fits
      by false is = fits

  grant_at : (stage : Stage) (policy : Policy) (identifier endpoint result : ℕ) (held : Held) (v : Channels) → endpoint < 2 ^ 16 → FitsHeld held → Fits v → Fits (hears_grant_at stage policy identifier endpoint result held v)
  grant_at (Requested request) policy identifier endpoint result held v small one fits = either (eqb request.identifier identifier) (hears_connected policy endpoint result held v) v (answered policy endpoint result held v small one fits) fits
  grant_at (Connected peer setup) policy identifier endpoint result held v small one fits = fits
  grant_at (Leaving peer setup request) policy identifier endpoint result held v small one fits = fits
  grant_at (Closing peer request checked) policy identifier endpoint result held v small one fits = fits
  grant_at (Crossed peer request) policy identifier endpoint result held v small one fits = fits

  pub grant-fits : (found : Option Held) (policy : Policy) (identifier endpoint result : ℕ) (v : Channels) → endpoint < 2 ^ 16 → FitsFound found → Fits v → Fits (hears_grant found policy identifier endpoint result v)
  grant-fits None policy identifier endpoint result v small one fits = fits
  grant-fits (Some held) policy identifier endpoint result v small one fits = grant_at held.stage policy identifier endpoint result held v small one fits

  settled_fits : (now : Settled) (held : Held) (setup : Setup) (v : Channels) → FitsHeld held → FitsSetup setup → Fits v → Fits (hears_settled now held setup v)
  settled_fits Accepted held setup v one so fits = granted held setup v one so fits
  settled_fits (Again options) held setup v one so fits =
      let after : Setup = renewed_setup setup in
      let renewed : FitsSetup after = record { own = so.own; parts = so.parts } in
      either (is_leaving held.stage || nat_le 3 after.renewed) (closes NoAgreement (with_setup held after) (to_setup held after v)) (asks_options held after options v) (third held after v one renewed fits) (options_asked held after options v one renewed fits)
  settled_fits Wait held setup v one so fits = fits
  settled_fits Never held setup v one so fits = closed held.stage NoAgreement held v one.stage one fits

  options_fit : (found : Result Options ConfigRefusal) (policy : Policy) (result : ℕ) (held : Held) (setup : Setup) (v : Channels) → FitsHeld held → FitsSetup setup → Fits v → Fits (hears_options found policy result held setup v)
  options_fit (Ok options) policy result held setup v one so fits = settled_fits (settled (policy.wish held.psm) result options) held setup v one so fits
  options_fit (Err refusal) policy result held setup v one so fits = fits

  response_on : (found : Option Setup) (policy : Policy) (identifier result : ℕ) (octets : List ℕ) (held : Held) (v : Channels) → FitsHeld held → FitsSome found → Fits v → Fits (hears_response_on found policy identifier result octets held v)
  response_on None policy identifier result octets held v one so fits = fits
  response_on (Some setup) policy identifier result octets held v one so fits =
      either (is_asked identifier setup.own) (hears_options (options_read octets) policy result held setup v) v (options_fit (options_read octets) policy result held setup v one so fits) fits

  pub response-fits : (found : Option Held) (policy : Policy) (identifier result : ℕ) (octets : List ℕ) (v : Channels) → FitsFound found → Fits v → Fits (hears_response found policy identifier result octets v)
  response-fits None policy identifier result octets v one fits = fits
  response-fits (Some held) policy identifier result octets v one fits = response_on (setup_of held.stage) policy identifier result octets held v one (setup-fits held.stage one.stage) fits

  pub end-fits : (found : Option Held) (peer : ℕ) (v : Channels) → Fits v → Fits (hears_end found peer v)
  end-fits None peer v fits = fits
  end-fits (Some held) peer v fits = either (is_peer peer held.stage) (ends OwnClosed held v) v (ended held.stage OwnClosed held v fits) fits

  -- ---- a PDU on a channel

  settles_fits : (reason : Option ErtmReason) (machine : Ertm) (held : Held) (setup : Setup) (v : Channels) → FitsHeld held → FitsSetup setup → Fits v → Fits (settles_machine reason machine held setup v)
  settles_fits None machine held setup v one so fits = set_up held (record setup { carrier = Some (Retransmitting machine) }) v one (record { own = so.own; parts = so.parts }) fits
  settles_fits (Some reason) machine held setup v one so fits = closed held.stage (reason_of reason) held v one.stage one fits

  carries_fits : (carrier : Carrier) (pdu : List ℕ) (held : Held) (setup : Setup) (v : Channels) → FitsHeld held → FitsSetup setup → Fits v → Fits (carries carrier pdu held setup v)
  carries_fits (Plain agreed waiting) pdu held setup v one so fits = fits
  carries_fits (Retransmitting machine) pdu held setup v one so fits = let after : Ertm = machine_heard (read_by machine pdu) machine in settles_fits after.closed after held setup v one so fits

  opens_fits : (own : Own) (held : Held) (setup : Setup) (v : Channels) → FitsHeld held → FitsSetup setup → Fits v → Fits (opens_with own held setup v)
  opens_fits Unasked held setup v one so fits = fits
  opens_fits (Asking request options) held setup v one so fits = granted held setup v one so fits
  opens_fits Granted held setup v one so fits = fits

  taken_with : (carrier : Option Carrier) (pdu : List ℕ) (held : Held) (setup : Setup) (v : Channels) → FitsHeld held → FitsSetup setup → Fits v → Fits (takes_with carrier pdu held setup v)
  taken_with None pdu held setup v one so fits = fits
  taken_with (Some carrier) pdu held setup v one so fits =
      let now : FitsSetup (granted_setup setup) = record { own = tt; parts = so.parts } in
      let u : Channels = opens_with setup.own held setup v in
      either (is_taken_with setup.own carrier pdu) (carries carrier pdu (with_setup held (granted_setup setup)) (granted_setup setup) u) v
      (carries_fits carrier pdu (with_setup held (granted_setup setup)) (granted_setup setup) u (held_with held (granted_setup setup) one now) now (opens_fits setup.own held setup v one so fits)) fits

  taken_on : (found : Option Setup) (pdu : List ℕ) (held : Held) (v : Channels) → FitsHeld held → FitsSome found → Fits v → Fits (takes_on found pdu held v)
  taken_on None pdu held v one so fits = fits
  taken_on (Some setup) pdu held v one so fits = taken_with setup.carrier pdu held setup v one so fits

  taken_held : (found : Option Held) (pdu : List ℕ) (v : Channels) → FitsFound found → Fits v → Fits (takes_held found pdu v)
  taken_held None pdu v one fits = fits
  taken_held (Some held) pdu v one fits = taken_on (setup_of held.stage) pdu held v one (setup-fits held.stage one.stage) fits

  pub takes-fits : (own : ℕ) (pdu : List ℕ) (v : Channels) → Fits v → Fits (takes own pdu v)
  takes-fits own pdu v fits = taken_held (held_at own v) pdu v (fits-found (has_own own) v fits) fits

  -- ---- what the host does by itself

  pub connects-fits : (psm : ℕ) (v : Channels) → F psm → Fits v → Fits (connected psm v)
  connects-fits psm v small fits = by (can_connect v) refl
    where
      and_two : (a b : Bool) → (a && b) ≡ true → b ≡ true
      and_two true b is = is
      and_two false b is = cc

      by : (b : Bool) → can_connect v ≡ b → Fits (cond b (asks (errands.Connection v.next) (with_channel psm (Requested (new_request v)) v)) v)
      by true is = asked (made psm (Requested (new_request v)) v small fits.identifier (leb-true v.next 0xFFFF (and_two _ (nat_le v.next 0xFFFF) is)) fits)
      by false is = fits

  left_at : (stage : Stage) (held : Held) (v : Channels) → FitsStage stage → FitsHeld held → Fits v → Fits (disconnected_at stage held v)
  left_at (Requested request) held v now one fits = closed held.stage OwnClosed held v one.stage one fits
  left_at (Connected peer setup) held v now one fits =
      let r : Request = new_request v in asked (staged held (Leaving peer setup r) v one (now.0, now.1, fits.identifier) fits)
  left_at (Leaving peer setup request) held v now one fits = fits
  left_at (Closing peer request checked) held v now one fits = fits
  left_at (Crossed peer request) held v now one fits = fits

  left_held : (found : Option Held) (v : Channels) → FitsFound found → Fits v → Fits (disconnected_held found v)
  left_held None v one fits = fits
  left_held (Some held) v one fits = left_at held.stage held v one.stage one fits

  pub disconnects-fits : (own : ℕ) (v : Channels) → Fits v → Fits (disconnected own v)
  disconnects-fits own v fits = left_held (held_at own v) v (fits-found (has_own own) v fits) fits

  sent_setup : (setup : Setup) (sdu : List ℕ) → FitsSetup setup → FitsSetup (sends_setup setup sdu)
  sent_setup setup sdu so = by (is_open setup)
    where
      after : Setup
      after = record setup { carrier = option_map (λ carrier. carrier_with carrier sdu) setup.carrier }

      by : (b : Bool) → FitsSetup (cond b after setup)
      by true = record { own = so.own; parts = so.parts }
      by false = so

  sent_on : (found : Option Setup) (sdu : List ℕ) (held : Held) (v : Channels) → FitsHeld held → FitsSome found → Fits v → Fits (sends_on found sdu held v)
  sent_on None sdu held v one so fits = fits
  sent_on (Some setup) sdu held v one so fits = set_up held (sends_setup setup sdu) v one (sent_setup setup sdu so) fits

  sent_held : (found : Option Held) (sdu : List ℕ) (v : Channels) → FitsFound found → Fits v → Fits (sends_held found sdu v)
  sent_held None sdu v one fits = fits
  sent_held (Some held) sdu v one fits = sent_on (setup_of held.stage) sdu held v one (setup-fits held.stage one.stage) fits

  pub sends-fits : (own : ℕ) (sdu : List ℕ) (v : Channels) → Fits v → Fits (sends own sdu v)
  sends-fits own sdu v fits = sent_held (held_at own v) sdu v (fits-found (has_own own) v fits) fits

  -- ---- the next PDU

  own_counted : (own : Own) → FitsOwn own → FitsOwn (own_given own)
  own_counted Unasked fits = tt
  own_counted (Asking request options) fits = fits
  own_counted Granted fits = tt

  connection_counted : (stage : Stage) → FitsStage stage → FitsStage (connection_given stage)
  connection_counted (Requested request) fits = fits
  connection_counted (Connected peer setup) fits = fits
  connection_counted (Leaving peer setup request) fits = fits
  connection_counted (Closing peer request checked) fits = fits
  connection_counted (Crossed peer request) fits = fits

  configuration_counted : (stage : Stage) → FitsStage stage → FitsStage (configuration_given stage)
  configuration_counted (Requested request) fits = fits
  configuration_counted (Connected peer setup) fits = (fits.0, record { own = own_counted setup.own fits.1.own; parts = fits.1.parts })
  configuration_counted (Leaving peer setup request) fits = (fits.0, record { own = own_counted setup.own fits.1.own; parts = fits.1.parts }, fits.2)
  configuration_counted (Closing peer request checked) fits = fits
  configuration_counted (Crossed peer request) fits = fits

  disconnection_counted : (stage : Stage) → FitsStage stage → FitsStage (disconnection_given stage)
  disconnection_counted (Requested request) fits = fits
  disconnection_counted (Connected peer setup) fits = fits
  disconnection_counted (Leaving peer setup request) fits = fits
  disconnection_counted (Closing peer request checked) fits = fits
  disconnection_counted (Crossed peer request) fits = fits

  stage_counted : (f : Stage → Stage) (found : Option Held) (v : Channels) → ((stage : Stage) → FitsStage stage → FitsStage (f stage)) → FitsFound found → Fits v → Fits (stage_given f found v)
  stage_counted f None v keeps one fits = fits
  stage_counted f (Some held) v keeps one fits = staged held (f held.stage) v one (keeps held.stage one.stage) fits

  counted_fits : (errand : Errand) (v : Channels) → Fits v → Fits (counted errand v)
  counted_fits (errands.Connection own) v fits = stage_counted connection_given (held_at own v) v connection_counted (fits-found (has_own own) v fits) fits
  counted_fits (errands.Configuration own) v fits = stage_counted configuration_given (held_at own v) v configuration_counted (fits-found (has_own own) v fits) fits
  counted_fits (errands.Disconnection own) v fits = stage_counted disconnection_given (held_at own v) v disconnection_counted (fits-found (has_own own) v fits) fits
  counted_fits errands.Features v fits = fits

  spent_fits : (found : Option Setup) (held : Held) (v : Channels) → FitsHeld held → FitsSome found → Fits v → Fits (carrier_spent found held v)
  spent_fits None held v one so fits = fits
  spent_fits (Some setup) held v one so fits = set_up held (record setup { carrier = option_map carrier_given setup.carrier }) v one (record { own = so.own; parts = so.parts }) fits

  given_held : (found : Option Held) (v : Channels) → FitsFound found → Fits v → Fits (held_given found v)
  given_held None v one fits = fits
  given_held (Some held) v one fits = spent_fits (setup_of held.stage) held v one (setup-fits held.stage one.stage) fits

  queue_fits : (queue : List Queued) (v : Channels) → Fits v → Fits (queue_given queue v)
  queue_fits [] v fits = given_held (find gives v.held) v (fits-found gives v fits) fits
  queue_fits (Answer command ∷ behind) v fits = fits
  queue_fits (Ask errand ∷ behind) v fits = counted_fits errand (record v { queue = behind }) fits

  pub gives-fits : (v : Channels) → Fits v → Fits (after_given v)
  gives-fits v fits = queue_fits v.queue v fits

  -- ---- the timer, of a channel

  fires_fits : (now : Fired) (errand : Errand) (spent : Channels → Channels) (v : Channels) → Fits (spent v) → Fits v → Fits (fires now errand spent v)
  fires_fits StillDue errand spent v goes fits = fits
  fires_fits OnceMore errand spent v goes fits = fits
  fires_fits Spent errand spent v goes fits = goes

  timed_carrier : (carrier : Option Carrier) (held : Held) (setup : Setup) (v : Channels) → FitsHeld held → FitsSetup setup → Fits v → Fits (times_carrier carrier held setup v)
  timed_carrier None held setup v one so fits = fits
  timed_carrier (Some (Plain agreed waiting)) held setup v one so fits = fits
  timed_carrier (Some (Retransmitting machine)) held setup v one so fits = settles_fits (timed machine).closed (timed machine) held setup v one so fits

  timed_setup : (own : Own) (tries : ℕ) (held : Held) (setup : Setup) (v : Channels) → FitsHeld held → FitsSetup setup → Fits v → Fits (times_setup own tries held setup v)
  timed_setup Unasked tries held setup v one so fits = timed_carrier setup.carrier held setup v one so fits
  timed_setup (Asking request options) tries held setup v one so fits =
      fires_fits (fired tries (errands.Configuration held.own) request v) (errands.Configuration held.own) (closes RetryLimit held) v (closed held.stage RetryLimit held v one.stage one fits) fits
  timed_setup Granted tries held setup v one so fits = timed_carrier setup.carrier held setup v one so fits

  timed_stage : (stage : Stage) (tries : ℕ) (held : Held) (v : Channels) → FitsStage stage → FitsHeld held → Fits v → Fits (times_stage stage tries held v)
  timed_stage (Requested request) tries held v now one fits =
      fires_fits (fired tries (errands.Connection held.own) request v) (errands.Connection held.own) (closes RetryLimit held) v (closed held.stage RetryLimit held v one.stage one fits) fits
  timed_stage (Connected peer setup) tries held v now one fits = timed_setup setup.own tries held setup v one now.1 fits
  timed_stage (Leaving peer setup request) tries held v now one fits = timed_setup setup.own tries held setup v one now.1 fits
  timed_stage (Closing peer request checked) tries held v now one fits = fits
  timed_stage (Crossed peer request) tries held v now one fits = fits

  timed_held : (found : Option Held) (tries : ℕ) (v : Channels) → FitsFound found → Fits v → Fits (times_held found tries v)
  timed_held None tries v one fits = fits
  timed_held (Some held) tries v one fits = timed_stage held.stage tries held v one.stage one fits

  end_fits : (stage : Stage) (tries : ℕ) (held : Held) (v : Channels) → Fits v → Fits (times_end_at stage tries held v)
  end_fits (Requested request) tries held v fits = fits
  end_fits (Connected peer setup) tries held v fits = fits
  end_fits (Leaving peer setup request) tries held v fits = fires_fits (fired tries (errands.Disconnection held.own) request v) (errands.Disconnection held.own) (ends RetryLimit held) v (ended held.stage RetryLimit held v fits) fits
  end_fits (Closing peer request checked) tries held v fits = fires_fits (fired tries (errands.Disconnection held.own) request v) (errands.Disconnection held.own) _ v (ended held.stage RetryLimit held v fits) fits
  end_fits (Crossed peer request) tries held v fits = fires_fits (fired tries (errands.Disconnection held.own) request v) (errands.Disconnection held.own) _ v (ended held.stage RetryLimit held v fits) fits

  ended_held : (found : Option Held) (tries : ℕ) (v : Channels) → Fits v → Fits (times_end found tries v)
  ended_held None tries v fits = fits
  ended_held (Some held) tries v fits = end_fits held.stage tries held v fits

  pub times-fits : (tries own : ℕ) (v : Channels) → Fits v → Fits (times_held (held_at own v) tries v)
  times-fits tries own v fits = timed_held (held_at own v) tries v (fits-found (has_own own) v fits) fits

  pub ends-fit : (tries own : ℕ) (v : Channels) → Fits v → Fits (times_end (held_at own v) tries v)
  ends-fit tries own v fits = ended_held (held_at own v) tries v fits
