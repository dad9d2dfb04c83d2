-- What one step does to one channel, and for which reason each is closed: what laws have to look at that go by these reasons. Of a host that
-- offers nothing.
use Rattle.std.proofs.Common.{◌≡◌, ℕ, List, [], ◌∷◌, ◌++◌, map, drop, Bool, true, false, cond, eqb, not, Option, Some, None, Result, Ok, Err, refl, sym, ap, subst, ◌∙◌, ◌||◌}
use Rattle.std.specs.Prelude.{find, filter, nat_le, nat_lt, length, is_some, option_map}
use Rattle.std.specs.List.{list_any}
use Rattle.shelf_model.specs.acl_fragments.specs.Pieces.{channel_of}
use Rattle.shelf_model.specs.l2cap_signal.specs.Commands.{Content, reject, connection_request, connection_response, configuration_request, configuration_response, disconnection_request, disconnection_response, echo_request, echo_response, information_request, information_response}
use Rattle.shelf_model.specs.l2cap_signal.specs.Reading.{Answer as Read, answers}
use Rattle.shelf_model.specs.l2cap_signal.specs.declared.refusal.SignalRefusal.{SignalRefusal}
use Rattle.shelf_model.specs.l2cap_signal.specs.declared.refusal.SignalRefusal.TheVariants.{ZeroIdentifier, BadLength, UnknownCode, AboveMtu}
use Rattle.shelf_model.specs.l2cap_config.specs.declared.options.Options.{Options}
use Rattle.shelf_model.specs.l2cap_config.specs.declared.options.ConfigRefusal.{ConfigRefusal}
use Rattle.shelf_model.specs.l2cap_config.specs.declared.agreement.ConfigAnswer.{ConfigAnswer}
use Rattle.shelf_model.specs.l2cap_config.specs.declared.agreement.ConfigAnswer.TheVariants.{Accept, Unacceptable, Unknown}
use Rattle.shelf_model.specs.l2cap_config.specs.declared.agreement.Settled.{Settled}
use Rattle.shelf_model.specs.l2cap_config.specs.declared.agreement.Settled.TheVariants.{Accepted, Again, Wait, Never}
use Rattle.shelf_model.specs.l2cap_config.specs.declared.wish.Wish.{Wish}
use Rattle.shelf_model.specs.l2cap_config.specs.Agreement.{settled}
use Rattle.shelf_model.specs.l2cap_config.specs.Reading.{options_read}
use Rattle.shelf_model.specs.ertm_model.specs.declared.reason.ErtmReason.{ErtmReason}
use Rattle.shelf_model.specs.ertm_model.specs.declared.reason.ErtmReason.TheVariants as machines
use Rattle.shelf_model.specs.ertm_model.specs.Value.{Ertm}
use Rattle.shelf_model.specs.ertm_model.specs.Giving.{timed}
use Rattle.channel_laws.specs.channel_model.specs.declared.errand.Errand.{Errand}
use Rattle.channel_laws.specs.channel_model.specs.declared.errand.Errand.TheVariants as errands
use Rattle.channel_laws.specs.channel_model.specs.declared.event.ChannelEvent.{ChannelEvent}
use Rattle.channel_laws.specs.channel_model.specs.declared.event.ChannelEvent.TheVariants.{Opened, Closed, Features, FeaturesLost, DisconnectLost}
use Rattle.channel_laws.specs.channel_model.specs.declared.event.CloseReason.{CloseReason}
use Rattle.channel_laws.specs.channel_model.specs.declared.event.CloseReason.TheVariants.{PeerClosed, Refused, NoAgreement, RetryLimit, Ertm as Broken, LinkDown, OwnClosed}
use Rattle.channel_laws.specs.channel_model.specs.declared.request_kind.RequestKind.{RequestKind}
use Rattle.channel_laws.specs.channel_model.specs.declared.request_kind.RequestKind.TheVariants as kinds
use Rattle.channel_laws.specs.channel_model.specs.Value.{Request, Queued, Answer, Ask, Own, Unasked, Asking, Granted, Carrier, Plain, Retransmitting, Setup, no_setup, Stage, Requested, Connected, Leaving, Closing, Crossed, Held, Remembered, Channels}
use Rattle.channel_laws.specs.channel_model.specs.Policies.{Policy}
use Rattle.channel_laws.specs.channel_model.specs.Changing.{has_own, in_place_of, held_at, has_peer, is_peer, to_stage, setup_of, stage_with, with_setup, to_setup, queued, forgets, tells, is_leaving}
use Rattle.channel_laws.specs.channel_model.specs.Asking.{new_request, first_options, asks_options, Fired, StillDue, OnceMore, Spent, fired}
use Rattle.channel_laws.specs.channel_model.specs.Closing.{closes, closes_at, peer_closes_at, ends, ends_at}
use Rattle.channel_laws.specs.channel_model.specs.Configuring.{Verdict, NoChannel, TooLate, Unreadable, Incomplete, Judged, verdict, accepted_setup, accepts_with, without_parts, refused_setup, follows_answer, follows_verdict, opens_if, granted_setup, grants}
use Rattle.channel_laws.specs.channel_model.specs.Responses.{is_fresh_endpoint, connects, hears_connected, hears_grant_at, hears_grant, renewed_setup, hears_settled, hears_options, is_asked, hears_response_on, hears_response, hears_end, has_identifier, hears_features, features_in}
use Rattle.channel_laws.specs.channel_model.specs.Answers.{kind_of_code, remembered, not_understood, too_long, answer_to}
use Rattle.channel_laws.specs.channel_model.specs.Following.{follows_connection, follows_setup, follows_configuration, follows_disconnection, follows, remembers, says, can_say, hears_new, hears_again, hears_kind, hears_request}
use Rattle.channel_laws.specs.channel_model.specs.Hearing.{hears_content, hears_malformed, is_response_code, is_kind, hears_unread, hears_refused, hears_command, hears_commands, hears}
use Rattle.channel_laws.specs.channel_model.specs.Carrying.{reason_of, settles_machine, machine_heard, read_by, carries, is_taken_with, opens_with, takes_with, takes_on, takes_held, takes}
use Rattle.channel_laws.specs.channel_model.specs.Timing.{fires, times_carrier, times_setup, times_stage, times_held, loses_end, times_end_at, times_end, times_channels, loses_features, times_features, timed_out}
use Rattle.channel_laws.specs.channel_model.specs.Giving.{one_more, connection_given, configuration_given, disconnection_given, stage_given, counted, carrier_given, carrier_spent, held_given, queue_given, after_given, gives}
use Rattle.channel_laws.specs.channel_model.specs.Calls.{sends_setup, sends_on, sends_held, sends}
use Rattle.channel_laws.specs.channel_model.proofs.Lookups.{own_of, Distinct, found-distinct}
use Rattle.channel_laws.specs.channel_model.proofs.Going.{staged}
use Rattle.channel_laws.specs.channel_model.proofs.Walking.{found-own, append_none, with-found}
use Rattle.channel_laws.specs.channel_model.proofs.Calling.{granted-same}

-- ---- one channel

-- it was closed, and not as its host asked
abbrev pub IsBad : CloseReason → Type 0
IsBad PeerClosed = Unit {0}
IsBad (Refused answer) = Unit {0}
IsBad NoAgreement = Unit {0}
IsBad RetryLimit = Unit {0}
IsBad (Broken reason) = Unit {0}
IsBad LinkDown = ⊥
IsBad OwnClosed = ⊥

-- how far it is, but for its options and requests
abbrev pub kind : Stage → ℕ
kind (Requested request) = 0
kind (Connected peer setup) = 1
kind (Leaving peer setup request) = 2
kind (Closing peer request checked) = 3
kind (Crossed peer request) = 4

-- it was not closed
abbrev pub is_alive : Stage → Bool
is_alive (Requested request) = true
is_alive (Connected peer setup) = true
is_alive (Leaving peer setup request) = true
is_alive (Closing peer request checked) = false
is_alive (Crossed peer request) = false

abbrev pub At : Channels → Held → Type 0
At v held = find (has_own held.own) v.held ≡ Some held

-- whether features are asked for stays so
abbrev pub SameQuestion : (v w : Channels) → Type 0
SameQuestion v w = is_some w.features ≡ is_some v.features

-- what stays so with each change
pub record Fine (K : Channels → Type 0) : Type 0 where
  pub still : (v w : Channels) → w.held ≡ v.held → SameQuestion v w → w.events ≡ v.events → K v → K w
  pub opens : (v w : Channels) (own psm : ℕ) → w.held ≡ v.held → SameQuestion v w → w.events ≡ v.events ++ Opened own psm ∷ [] → K v → K w
  pub stages : (v w : Channels) (held : Held) (stage : Stage) → At v held → kind stage ≡ kind held.stage → w.held ≡ map (in_place_of (staged held stage)) v.held → SameQuestion v w → w.events ≡ v.events → K v → K w
  pub joins : (v w : Channels) (held : Held) (request : Request) (peer : ℕ) (setup : Setup) → At v held → held.stage ≡ Requested request → w.held ≡ map (in_place_of (staged held (Connected peer setup))) v.held → SameQuestion v w → w.events ≡ v.events → K v → K w
  -- it is closed
  pub shuts : (v w : Channels) (held : Held) (reason : CloseReason) → At v held → is_alive held.stage ≡ true → IsBad reason → w.events ≡ v.events ++ Closed held.own held.psm reason ∷ [] → K v → K w
  -- its end was asked for, and the answer came
  pub ends : (v w : Channels) (held : Held) → At v held → kind held.stage ≡ 2 → w.held ≡ filter (λ other. not (eqb other.own held.own)) v.held → SameQuestion v w → w.events ≡ v.events ++ Closed held.own held.psm OwnClosed ∷ [] → K v → K w
  -- one that was closed goes on, or is done with
  pub dies : (v w : Channels) (held : Held) (more : List ChannelEvent) → At v held → is_alive held.stage ≡ false → w.events ≡ v.events ++ more → K v → K w
  pub answered : (v w : Channels) (request : Request) (features : Option ℕ) → v.features ≡ Some request → w.held ≡ v.held → w.features ≡ None → w.events ≡ v.events ++ Features features ∷ [] → K v → K w
  pub misses : (v w : Channels) (request : Request) → v.features ≡ Some request → w.events ≡ v.events ++ FeaturesLost ∷ [] → K v → K w

pub machine-bad : (reason : ErtmReason) → IsBad (reason_of reason)
machine-bad machines.BadReqSeq = tt
machine-bad machines.Srej = tt
machine-bad machines.BadSegment = tt
machine-bad machines.RetryLimit = tt
machine-bad machines.TooLongSdu = tt
machine-bad machines.BadFrame = tt

kind_with : (setup : Setup) (stage : Stage) → kind (stage_with setup stage) ≡ kind stage
kind_with setup (Requested request) = refl
kind_with setup (Connected peer before) = refl
kind_with setup (Leaving peer before request) = refl
kind_with setup (Closing peer request checked) = refl
kind_with setup (Crossed peer request) = refl

question_more : (features : Option Request) → is_some (option_map one_more features) ≡ is_some features
question_more None = refl
question_more (Some request) = refl

connection_kind : (stage : Stage) → kind (connection_given stage) ≡ kind stage
connection_kind (Requested request) = refl
connection_kind (Connected peer setup) = refl
connection_kind (Leaving peer setup request) = refl
connection_kind (Closing peer request checked) = refl
connection_kind (Crossed peer request) = refl

configuration_kind : (stage : Stage) → kind (configuration_given stage) ≡ kind stage
configuration_kind (Requested request) = refl
configuration_kind (Connected peer setup) = refl
configuration_kind (Leaving peer setup request) = refl
configuration_kind (Closing peer request checked) = refl
configuration_kind (Crossed peer request) = refl

disconnection_kind : (stage : Stage) → kind (disconnection_given stage) ≡ kind stage
disconnection_kind (Requested request) = refl
disconnection_kind (Connected peer setup) = refl
disconnection_kind (Leaving peer setup request) = refl
disconnection_kind (Closing peer request checked) = refl
disconnection_kind (Crossed peer request) = refl

module _ (K : Channels → Type 0) (fine : Fine K) where
  either : (b : Bool) (x y : Channels) → K x → K y → K (cond b x y)
  either true x y one other = one
  either false x y one other = other

  queues : (v w : Channels) → w.held ≡ v.held → w.features ≡ v.features → w.events ≡ v.events → K v → K w
  queues v w held_is features_are events_are k = fine.still v w held_is (ap is_some features_are) events_are k

  -- ---- options

  set_up : (v : Channels) (held : Held) (setup : Setup) → At v held → K v → K (to_setup held setup v)
  set_up v held setup at k = fine.stages v (to_setup held setup v) held (stage_with setup held.stage) at (kind_with setup held.stage) refl refl refl k

  options_asked : (v : Channels) (held : Held) (setup : Setup) (options : Options) → At v held → K v → K (asks_options held setup options v)
  options_asked v held setup options at k =
      fine.stages v (asks_options held setup options v) held (stage_with (record setup { own = Asking (new_request v) options }) held.stage) at (kind_with (record setup { own = Asking (new_request v) options }) held.stage) refl refl refl k

  opened : (b : Bool) (held : Held) (v : Channels) → K v → K (opens_if b held v)
  opened true held v k = fine.opens v (opens_if true held v) held.own held.psm refl refl refl k
  opened false held v k = k

  granted : (v : Channels) (held : Held) (setup : Setup) → At v held → K v → K (grants held setup v)
  granted v held setup at k =
      let u : Channels = to_setup held (granted_setup setup) (forgets (errands.Configuration held.own) v) in
      opened (is_some setup.carrier) held u (fine.stages v u held (stage_with (granted_setup setup) held.stage) at (kind_with (granted_setup setup) held.stage) refl refl refl k)

  granted_at : (v : Channels) (held : Held) (setup : Setup) → At v held → At (grants held setup v) (with_setup held (granted_setup setup))
  granted_at v held setup at = by (is_some setup.carrier)
    where
      by : (b : Bool) → find (has_own held.own) (opens_if b held (to_setup held (granted_setup setup) (forgets (errands.Configuration held.own) v))).held ≡ Some (with_setup held (granted_setup setup))
      by true = with-found v held (granted_setup setup) at
      by false = with-found v held (granted_setup setup) at

  -- ---- ends

  shut_at : (v : Channels) (held : Held) (reason : CloseReason) (stage : Stage) → held.stage ≡ stage → At v held → IsBad reason → K v → K (closes_at stage reason held v)
  shut_at v held reason (Requested request) is at bad k = fine.shuts v (closes_at (Requested request) reason held v) held reason at (ap is_alive is) bad refl k
  shut_at v held reason (Connected peer setup) is at bad k = fine.shuts v (closes_at (Connected peer setup) reason held v) held reason at (ap is_alive is) bad refl k
  shut_at v held reason (Leaving peer setup request) is at bad k = fine.shuts v (closes_at (Leaving peer setup request) reason held v) held reason at (ap is_alive is) bad refl k
  shut_at v held reason (Closing peer request checked) is at bad k = k
  shut_at v held reason (Crossed peer request) is at bad k = k

  pub shut : (v : Channels) (held : Held) (reason : CloseReason) → At v held → IsBad reason → K v → K (closes reason held v)
  shut v held reason at bad k = shut_at v held reason held.stage refl at bad k

  peer_shut : (v : Channels) (held : Held) (stage : Stage) → held.stage ≡ stage → At v held → K v → K (peer_closes_at stage held v)
  peer_shut v held (Requested request) is at k = k
  peer_shut v held (Connected peer setup) is at k = fine.shuts v (peer_closes_at (Connected peer setup) held v) held PeerClosed at (ap is_alive is) tt refl k
  peer_shut v held (Leaving peer setup request) is at k = fine.shuts v (peer_closes_at (Leaving peer setup request) held v) held PeerClosed at (ap is_alive is) tt refl k
  peer_shut v held (Closing peer request checked) is at k = fine.dies v (peer_closes_at (Closing peer request checked) held v) held [] at (ap is_alive is) (append_none v.events) k
  peer_shut v held (Crossed peer request) is at k = k

  own_ended : (v : Channels) (held : Held) (stage : Stage) → held.stage ≡ stage → At v held → K v → K (ends_at stage OwnClosed held v)
  own_ended v held (Requested request) is at k = k
  own_ended v held (Connected peer setup) is at k = k
  own_ended v held (Leaving peer setup request) is at k = fine.ends v (ends_at (Leaving peer setup request) OwnClosed held v) held at (ap kind is) refl refl refl k
  own_ended v held (Closing peer request checked) is at k = fine.dies v (ends_at (Closing peer request checked) OwnClosed held v) held [] at (ap is_alive is) (append_none v.events) k
  own_ended v held (Crossed peer request) is at k = fine.dies v (ends_at (Crossed peer request) OwnClosed held v) held [] at (ap is_alive is) (append_none v.events) k

  lost_ended : (v : Channels) (held : Held) (stage : Stage) → held.stage ≡ stage → At v held → K v → K (ends_at stage RetryLimit held v)
  lost_ended v held (Requested request) is at k = k
  lost_ended v held (Connected peer setup) is at k = k
  lost_ended v held (Leaving peer setup request) is at k = fine.shuts v (ends_at (Leaving peer setup request) RetryLimit held v) held RetryLimit at (ap is_alive is) tt refl k
  lost_ended v held (Closing peer request checked) is at k = fine.dies v (ends_at (Closing peer request checked) RetryLimit held v) held [] at (ap is_alive is) (append_none v.events) k
  lost_ended v held (Crossed peer request) is at k = fine.dies v (ends_at (Crossed peer request) RetryLimit held v) held [] at (ap is_alive is) (append_none v.events) k

  third : (v : Channels) (held : Held) (setup : Setup) → At v held → K v → K (closes NoAgreement (with_setup held setup) (to_setup held setup v))
  third v held setup at k = shut (to_setup held setup v) (with_setup held setup) NoAgreement (with-found v held setup at) tt (set_up v held setup at k)

  -- ---- what follows from a request of the peer

  accepted : (own : Own) (wish : Wish) (v : Channels) (held : Held) (setup : Setup) → At v held → K v → K (accepts_with own wish held setup v)
  accepted Unasked wish v held setup at k = options_asked v held setup (first_options wish) at k
  accepted (Asking request options) wish v held setup at k = set_up v held setup at k
  accepted Granted wish v held setup at k = fine.opens (to_setup held setup v) (accepts_with Granted wish held setup v) held.own held.psm refl refl refl (set_up v held setup at k)

  followed : (answer : ConfigAnswer) (wish : Wish) (options : Options) (v : Channels) (held : Held) (setup : Setup) → At v held → K v → K (follows_answer answer wish options held setup v)
  followed (Accept given) wish options v held setup at k = accepted setup.own wish v held (accepted_setup wish options setup) at k
  followed (Unacceptable refusal given) wish options v held setup at k =
      let after : Setup = refused_setup setup in
      either (nat_le 3 after.refused) (closes NoAgreement (with_setup held after) (to_setup held after v)) (to_setup held after v) (third v held after at k) (set_up v held after at k)
  followed Unknown wish options v held setup at k = set_up v held (without_parts setup) at k

  verdict_follows : (now : Verdict) (wish : Wish) (v : Channels) (held : Held) (setup : Setup) → At v held → K v → K (follows_verdict now wish held setup v)
  verdict_follows NoChannel wish v held setup at k = k
  verdict_follows (TooLate peer) wish v held setup at k = k
  verdict_follows (Unreadable peer) wish v held setup at k = set_up v held (without_parts setup) at k
  verdict_follows (Incomplete peer options) wish v held setup at k = set_up v held (record setup { parts = options }) at k
  verdict_follows (Judged peer options answer) wish v held setup at k = followed answer wish options v held setup at k

  setup_follows : (found : Option Setup) (policy : Policy) (v : Channels) (held : Held) (flags : ℕ) (octets : List ℕ) → At v held → K v → K (follows_setup found policy held flags octets v)
  setup_follows None policy v held flags octets at k = k
  setup_follows (Some setup) policy v held flags octets at k = verdict_follows (verdict policy held.own flags octets v) (policy.wish held.psm) v held setup at k

  configuration_follows : (found : Option Held) (policy : Policy) (own flags : ℕ) (octets : List ℕ) (v : Channels) → held_at own v ≡ found → K v → K (follows_configuration found policy flags octets v)
  configuration_follows None policy own flags octets v at k = k
  configuration_follows (Some held) policy own flags octets v at k = setup_follows (setup_of held.stage) policy v held flags octets (found-own own v held at) k

  disconnection_follows : (found : Option Held) (own peer : ℕ) (v : Channels) → held_at own v ≡ found → K v → K (follows_disconnection found peer v)
  disconnection_follows None own peer v at k = k
  disconnection_follows (Some held) own peer v at k = either (is_peer peer held.stage) (peer_closes_at held.stage held v) v (peer_shut v held held.stage refl (found-own own v held at) k) k

  module _ (policy : Policy) (none : (psm : ℕ) → policy.offers psm ≡ false) where
    follow : (content : Content) (v : Channels) → K v → K (follows policy content v)
    follow (reject reason rest) v k = k
    follow (connection_request psm source) v k =
        subst (λ b. K (follows_connection (cond (not b) 2 (cond (nat_le 4 (length v.held)) 4 (cond (nat_lt 0xFFFF v.next) 4 (cond (nat_lt source 0x0040) 6 (cond (list_any (has_peer source) v.held) 7 0))))) psm source v)) (sym (none psm)) k
    follow (connection_response destination source answer status) v k = k
    follow (configuration_request destination flags options) v k = configuration_follows (held_at destination v) policy destination flags options v refl k
    follow (configuration_response source flags answer options) v k = k
    follow (disconnection_request destination source) v k = disconnection_follows (held_at destination v) destination source v refl k
    follow (disconnection_response destination source) v k = k
    follow (echo_request octets) v k = k
    follow (echo_response octets) v k = k
    follow (information_request kind') v k = k
    follow (information_response kind' answer rest) v k = k

    said : (identifier : ℕ) (response : Option Content) (v : Channels) → K v → K (says identifier response v)
    said identifier None v k = k
    said identifier (Some content) v k = queues v (says identifier (Some content) v) refl refl refl k

    again : (identifier : ℕ) (response : Option Content) (v : Channels) → K v → K (hears_again identifier response v)
    again identifier response v k = either (can_say response v) (says identifier response v) v (said identifier response v k) k

    anew : (kind' : RequestKind) (identifier : ℕ) (response : Option Content) (goes_on : Channels → Channels) (v : Channels) → ((u : Channels) → K u → K (goes_on u)) → K v → K (hears_new kind' identifier response goes_on v)
    anew kind' identifier response goes_on v goes k =
        let u : Channels = remembers kind' identifier response v in
        either (can_say response v) (goes_on (says identifier response u)) v (goes (says identifier response u) (said identifier response u (queues v u refl refl refl k))) k

    of_kind : (last : Option Remembered) (kind' : RequestKind) (identifier : ℕ) (response : Option Content) (goes_on : Channels → Channels) (v : Channels) → ((u : Channels) → K u → K (goes_on u)) → K v → K (hears_kind last kind' identifier response goes_on v)
    of_kind None kind' identifier response goes_on v goes k = anew kind' identifier response goes_on v goes k
    of_kind (Some last) kind' identifier response goes_on v goes k =
        either (eqb last.identifier identifier) (hears_again identifier last.response v) (hears_new kind' identifier response goes_on v) (again identifier last.response v k) (anew kind' identifier response goes_on v goes k)

    questioned : (kind' : RequestKind) (identifier : ℕ) (content : Content) (v : Channels) → K v → K (hears_request kind' identifier (answer_to policy content v) (follows policy content) v)
    questioned kind' identifier content v k = of_kind (remembered kind' v.memory) kind' identifier (answer_to policy content v) (follows policy content) v (λ u now. follow content u now) k

    -- ---- what the peer responds

    joined : (wish : Wish) (peer : ℕ) (v : Channels) (held : Held) (request : Request) → held.stage ≡ Requested request → At v held → K v → K (connects wish peer held v)
    joined wish peer v held request is at k =
        let setup : Setup = record no_setup { own = Asking (new_request v) (first_options wish) } in
        fine.joins v (connects wish peer held v) held request peer setup at is refl refl refl k

    granted_channel : (endpoint result : ℕ) (v : Channels) (held : Held) (request : Request) → held.stage ≡ Requested request → At v held → K v → K (hears_connected policy endpoint result held v)
    granted_channel endpoint result v held request is at k =
        either (eqb result 0) (cond (is_fresh_endpoint endpoint v) (connects (policy.wish held.psm) endpoint held v) v) (cond (eqb result 1) v (closes (Refused result) held v))
        (either (is_fresh_endpoint endpoint v) (connects (policy.wish held.psm) endpoint held v) v (joined (policy.wish held.psm) endpoint v held request is at k) k)
        (either (eqb result 1) v (closes (Refused result) held v) k (shut v held (Refused result) at tt k))

    grant_at : (stage : Stage) (identifier endpoint result : ℕ) (v : Channels) (held : Held) → held.stage ≡ stage → At v held → K v → K (hears_grant_at stage policy identifier endpoint result held v)
    grant_at (Requested request) identifier endpoint result v held is at k = either (eqb request.identifier identifier) (hears_connected policy endpoint result held v) v (granted_channel endpoint result v held request is at k) k
    grant_at (Connected peer setup) identifier endpoint result v held is at k = k
    grant_at (Leaving peer setup request) identifier endpoint result v held is at k = k
    grant_at (Closing peer request checked) identifier endpoint result v held is at k = k
    grant_at (Crossed peer request) identifier endpoint result v held is at k = k

    granted_by : (found : Option Held) (own identifier endpoint result : ℕ) (v : Channels) → held_at own v ≡ found → K v → K (hears_grant found policy identifier endpoint result v)
    granted_by None own identifier endpoint result v at k = k
    granted_by (Some held) own identifier endpoint result v at k = grant_at held.stage identifier endpoint result v held refl (found-own own v held at) k

    settled_so : (now : Settled) (v : Channels) (held : Held) (setup : Setup) → At v held → K v → K (hears_settled now held setup v)
    settled_so Accepted v held setup at k = granted v held setup at k
    settled_so (Again options) v held setup at k =
        let after : Setup = renewed_setup setup in
        either (is_leaving held.stage || nat_le 3 after.renewed) (closes NoAgreement (with_setup held after) (to_setup held after v)) (asks_options held after options v) (third v held after at k) (options_asked v held after options at k)
    settled_so Wait v held setup at k = k
    settled_so Never v held setup at k = shut v held NoAgreement at tt k

    options_so : (found : Result Options ConfigRefusal) (result : ℕ) (v : Channels) (held : Held) (setup : Setup) → At v held → K v → K (hears_options found policy result held setup v)
    options_so (Ok options) result v held setup at k = settled_so (settled (policy.wish held.psm) result options) v held setup at k
    options_so (Err refusal) result v held setup at k = k

    response_on : (found : Option Setup) (identifier result : ℕ) (octets : List ℕ) (v : Channels) (held : Held) → At v held → K v → K (hears_response_on found policy identifier result octets held v)
    response_on None identifier result octets v held at k = k
    response_on (Some setup) identifier result octets v held at k =
        either (is_asked identifier setup.own) (hears_options (options_read octets) policy result held setup v) v (options_so (options_read octets) result v held setup at k) k

    responded : (found : Option Held) (own identifier result : ℕ) (octets : List ℕ) (v : Channels) → held_at own v ≡ found → K v → K (hears_response found policy identifier result octets v)
    responded None own identifier result octets v at k = k
    responded (Some held) own identifier result octets v at k = response_on (setup_of held.stage) identifier result octets v held (found-own own v held at) k

    ended_by : (found : Option Held) (own peer : ℕ) (v : Channels) → held_at own v ≡ found → K v → K (hears_end found peer v)
    ended_by None own peer v at k = k
    ended_by (Some held) own peer v at k = either (is_peer peer held.stage) (ends OwnClosed held v) v (own_ended v held held.stage refl (found-own own v held at) k) k

    featured : (identifier : ℕ) (told : Option ℕ) (v : Channels) → K v → K (hears_features identifier told v)
    featured identifier told v k = by v.features refl
      where
        w : Channels
        w = tells (Features told) (forgets errands.Features (record v { features = None }))

        by : (asked : Option Request) → v.features ≡ asked → K (cond (has_identifier identifier v.features) w v)
        by None is = subst (λ (asked : Option Request). K (cond (has_identifier identifier asked) w v)) (sym is) k
        by (Some request) is = either (has_identifier identifier v.features) w v (fine.answered v w request told is refl refl refl k) k

    -- ---- a command

    content_so : (identifier : ℕ) (content : Content) (v : Channels) → K v → K (hears_content policy identifier content v)
    content_so identifier (reject reason rest) v k = featured identifier None v k
    content_so identifier (connection_request psm source) v k = questioned kinds.Connection identifier (connection_request psm source) v k
    content_so identifier (connection_response destination source answer status) v k = granted_by (held_at source v) source identifier destination answer v refl k
    content_so identifier (configuration_request destination flags options) v k = questioned kinds.Configuration identifier (configuration_request destination flags options) v k
    content_so identifier (configuration_response source flags answer options) v k = responded (held_at source v) source identifier answer options v refl k
    content_so identifier (disconnection_request destination source) v k = questioned kinds.Disconnection identifier (disconnection_request destination source) v k
    content_so identifier (disconnection_response destination source) v k = ended_by (held_at source v) source destination v refl k
    content_so identifier (echo_request octets) v k = questioned kinds.Echo identifier (echo_request octets) v k
    content_so identifier (echo_response octets) v k = k
    content_so identifier (information_request kind') v k = questioned kinds.Information identifier (information_request kind') v k
    content_so identifier (information_response kind' answer rest) v k = featured identifier (features_in kind' answer rest) v k

    malformed : (kind' : Option RequestKind) (identifier : ℕ) (v : Channels) → K v → K (hears_malformed kind' identifier v)
    malformed None identifier v k = k
    malformed (Some kind') identifier v k = of_kind (remembered kind' v.memory) kind' identifier (Some not_understood) (λ w. w) v (λ u now. now) k

    unread_so : (code identifier : ℕ) (v : Channels) → K v → K (hears_unread code identifier v)
    unread_so code identifier v k =
        either (eqb identifier 0) v _ k
        (either (is_response_code code) v _ k
        (either (is_kind (kind_of_code code)) (hears_malformed (kind_of_code code) identifier v) (hears_again identifier (Some not_understood) v) (malformed (kind_of_code code) identifier v k) (again identifier (Some not_understood) v k)))

    refused_so : (refusal : SignalRefusal) (v : Channels) → K v → K (hears_refused refusal v)
    refused_so (ZeroIdentifier code identifier) v k = k
    refused_so (BadLength code None) v k = k
    refused_so (BadLength code (Some identifier)) v k = unread_so code identifier v k
    refused_so (UnknownCode code None) v k = k
    refused_so (UnknownCode code (Some identifier)) v k = unread_so code identifier v k
    refused_so (AboveMtu code None) v k = k
    refused_so (AboveMtu code (Some identifier)) v k = either (eqb identifier 0) v (hears_again identifier (Some too_long) v) k (again identifier (Some too_long) v k)

    command_so : (one : Read) (v : Channels) → K v → K (hears_command policy one v)
    command_so (Ok command) v k = content_so command.identifier command.content v k
    command_so (Err refusal) v k = refused_so refusal v k

    commands_so : (list : List Read) (v : Channels) → K v → K (hears_commands policy list v)
    commands_so [] v k = k
    commands_so (one ∷ list) v k = commands_so list (hears_command policy one v) (command_so one v k)

  -- ---- a PDU on a channel

  settles_so : (reason : Option ErtmReason) (machine : Ertm) (v : Channels) (held : Held) (setup : Setup) → At v held → K v → K (settles_machine reason machine held setup v)
  settles_so None machine v held setup at k = set_up v held (record setup { carrier = Some (Retransmitting machine) }) at k
  settles_so (Some reason) machine v held setup at k = shut v held (reason_of reason) at (machine-bad reason) k

  carries_so : (carrier : Carrier) (pdu : List ℕ) (v : Channels) (held : Held) (setup : Setup) → At v held → K v → K (carries carrier pdu held setup v)
  carries_so (Plain agreed waiting) pdu v held setup at k = k
  carries_so (Retransmitting machine) pdu v held setup at k = let after : Ertm = machine_heard (read_by machine pdu) machine in settles_so after.closed after v held setup at k

  opened_by : (own : Own) (taken : Bool) (carrier : Carrier) (pdu : List ℕ) (v : Channels) (held : Held) (setup : Setup) → At v held → setup_of held.stage ≡ Some setup → setup.own ≡ own → is_taken_with own carrier pdu ≡ taken → K v
      → K (cond taken (carries carrier pdu (with_setup held (granted_setup setup)) (granted_setup setup) (opens_with own held setup v)) v)
  opened_by own false carrier pdu v held setup at is own_is takes' k = k
  opened_by Unasked true carrier pdu v held setup at is own_is takes' k = cc
  opened_by (Asking request options) true carrier pdu v held setup at is own_is takes' k =
      carries_so carrier pdu (grants held setup v) (with_setup held (granted_setup setup)) (granted_setup setup) (granted_at v held setup at) (granted v held setup at k)
  opened_by Granted true carrier pdu v held setup at is own_is takes' k =
      let same : with_setup held (granted_setup setup) ≡ held = ap (λ (s : Stage). let h : Held = record held { stage = s } in h) (granted-same held.stage setup is own_is) in
      carries_so carrier pdu v (with_setup held (granted_setup setup)) (granted_setup setup) (at ∙ ap Some (sym same)) k

  taken_with : (carrier : Option Carrier) (pdu : List ℕ) (v : Channels) (held : Held) (setup : Setup) → At v held → setup_of held.stage ≡ Some setup → K v → K (takes_with carrier pdu held setup v)
  taken_with None pdu v held setup at is k = k
  taken_with (Some carrier) pdu v held setup at is k = opened_by setup.own (is_taken_with setup.own carrier pdu) carrier pdu v held setup at is refl refl k

  taken_on : (found : Option Setup) (pdu : List ℕ) (v : Channels) (held : Held) → At v held → setup_of held.stage ≡ found → K v → K (takes_on found pdu held v)
  taken_on None pdu v held at is k = k
  taken_on (Some setup) pdu v held at is k = taken_with setup.carrier pdu v held setup at is k

  taken_held : (found : Option Held) (own : ℕ) (pdu : List ℕ) (v : Channels) → held_at own v ≡ found → K v → K (takes_held found pdu v)
  taken_held None own pdu v at k = k
  taken_held (Some held) own pdu v at k = taken_on (setup_of held.stage) pdu v held (found-own own v held at) refl k

  pub comes-fine : (policy : Policy) → ((psm : ℕ) → policy.offers psm ≡ false) → (pdu : List ℕ) (v : Channels) → K v → K (hears policy (channel_of pdu) pdu v)
  comes-fine policy none pdu v k =
      either (eqb (channel_of pdu) 0x0001) (hears_commands policy (answers (drop 4 pdu)) v) (takes (channel_of pdu) pdu v) (commands_so policy none (answers (drop 4 pdu)) v k)
      (taken_held (held_at (channel_of pdu) v) (channel_of pdu) pdu v refl k)

  -- ---- an SDU is sent, and the next PDU given

  sent_on : (found : Option Setup) (sdu : List ℕ) (v : Channels) (held : Held) → At v held → K v → K (sends_on found sdu held v)
  sent_on None sdu v held at k = k
  sent_on (Some setup) sdu v held at k = set_up v held (sends_setup setup sdu) at k

  sent_held : (found : Option Held) (own : ℕ) (sdu : List ℕ) (v : Channels) → held_at own v ≡ found → K v → K (sends_held found sdu v)
  sent_held None own sdu v at k = k
  sent_held (Some held) own sdu v at k = sent_on (setup_of held.stage) sdu v held (found-own own v held at) k

  pub sends-fine : (own : ℕ) (sdu : List ℕ) (v : Channels) → K v → K (sends own sdu v)
  sends-fine own sdu v k = sent_held (held_at own v) own sdu v refl k

  stage_counted : (f : Stage → Stage) (found : Option Held) (own : ℕ) (v : Channels) → ((stage : Stage) → kind (f stage) ≡ kind stage) → held_at own v ≡ found → K v → K (stage_given f found v)
  stage_counted f None own v keeps at k = k
  stage_counted f (Some held) own v keeps at k = fine.stages v (to_stage held (f held.stage) v) held (f held.stage) (found-own own v held at) (keeps held.stage) refl refl refl k

  counted_so : (errand : Errand) (v : Channels) → K v → K (counted errand v)
  counted_so (errands.Connection own) v k = stage_counted connection_given (held_at own v) own v connection_kind refl k
  counted_so (errands.Configuration own) v k = stage_counted configuration_given (held_at own v) own v configuration_kind refl k
  counted_so (errands.Disconnection own) v k = stage_counted disconnection_given (held_at own v) own v disconnection_kind refl k
  counted_so errands.Features v k = fine.still v (counted errands.Features v) refl (question_more v.features) refl k

  spent_so : (found : Option Setup) (v : Channels) (held : Held) → At v held → K v → K (carrier_spent found held v)
  spent_so None v held at k = k
  spent_so (Some setup) v held at k = set_up v held (record setup { carrier = option_map carrier_given setup.carrier }) at k

  given_held : (found : Option Held) (v : Channels) → Distinct own_of v.held → find gives v.held ≡ found → K v → K (held_given found v)
  given_held None v lone at k = k
  given_held (Some held) v lone at k = spent_so (setup_of held.stage) v held (found-distinct own_of gives v.held held lone at) k

  queue_so : (queue : List Queued) (v : Channels) → Distinct own_of v.held → K v → K (queue_given queue v)
  queue_so [] v lone k = given_held (find gives v.held) v lone refl k
  queue_so (Answer command ∷ behind) v lone k = queues v (record v { queue = behind }) refl refl refl k
  queue_so (Ask errand ∷ behind) v lone k = let u : Channels = record v { queue = behind } in counted_so errand u (queues v u refl refl refl k)

  pub gives-fine : (v : Channels) → Distinct own_of v.held → K v → K (after_given v)
  gives-fine v lone k = queue_so v.queue v lone k

  -- ---- the timer

  fires_so : (now : Fired) (errand : Errand) (spent : Channels → Channels) (v : Channels) → K (spent v) → K v → K (fires now errand spent v)
  fires_so StillDue errand spent v goes k = k
  fires_so OnceMore errand spent v goes k = queues v (queued (Ask errand) v) refl refl refl k
  fires_so Spent errand spent v goes k = goes

  timed_carrier : (carrier : Option Carrier) (v : Channels) (held : Held) (setup : Setup) → At v held → K v → K (times_carrier carrier held setup v)
  timed_carrier None v held setup at k = k
  timed_carrier (Some (Plain agreed waiting)) v held setup at k = k
  timed_carrier (Some (Retransmitting machine)) v held setup at k = settles_so (timed machine).closed (timed machine) v held setup at k

  timed_setup : (own : Own) (tries : ℕ) (v : Channels) (held : Held) (setup : Setup) → At v held → K v → K (times_setup own tries held setup v)
  timed_setup Unasked tries v held setup at k = timed_carrier setup.carrier v held setup at k
  timed_setup (Asking request options) tries v held setup at k = fires_so (fired tries (errands.Configuration held.own) request v) (errands.Configuration held.own) (closes RetryLimit held) v (shut v held RetryLimit at tt k) k
  timed_setup Granted tries v held setup at k = timed_carrier setup.carrier v held setup at k

  timed_stage : (stage : Stage) (tries : ℕ) (v : Channels) (held : Held) → At v held → K v → K (times_stage stage tries held v)
  timed_stage (Requested request) tries v held at k = fires_so (fired tries (errands.Connection held.own) request v) (errands.Connection held.own) (closes RetryLimit held) v (shut v held RetryLimit at tt k) k
  timed_stage (Connected peer setup) tries v held at k = timed_setup setup.own tries v held setup at k
  timed_stage (Leaving peer setup request) tries v held at k = timed_setup setup.own tries v held setup at k
  timed_stage (Closing peer request checked) tries v held at k = k
  timed_stage (Crossed peer request) tries v held at k = k

  timed_held : (found : Option Held) (own tries : ℕ) (v : Channels) → held_at own v ≡ found → K v → K (times_held found tries v)
  timed_held None own tries v at k = k
  timed_held (Some held) own tries v at k = timed_stage held.stage tries v held (found-own own v held at) k

  loses_so : (v : Channels) (held : Held) (stage : Stage) → held.stage ≡ stage → is_alive stage ≡ false → At v held → K v → K (loses_end held v)
  loses_so v held (Requested request) is dead at k = cc
  loses_so v held (Connected peer setup) is dead at k = cc
  loses_so v held (Leaving peer setup request) is dead at k = cc
  loses_so v held (Closing peer request checked) is dead at k =
      fine.dies v (loses_end held v) held (DisconnectLost held.own ∷ []) at (ap is_alive is) (ap (λ s. (ends_at s RetryLimit held v).events ++ DisconnectLost held.own ∷ []) is) k
  loses_so v held (Crossed peer request) is dead at k =
      fine.dies v (loses_end held v) held (DisconnectLost held.own ∷ []) at (ap is_alive is) (ap (λ s. (ends_at s RetryLimit held v).events ++ DisconnectLost held.own ∷ []) is) k

  end_at : (stage : Stage) (tries : ℕ) (v : Channels) (held : Held) → held.stage ≡ stage → At v held → K v → K (times_end_at stage tries held v)
  end_at (Requested request) tries v held is at k = k
  end_at (Connected peer setup) tries v held is at k = k
  end_at (Leaving peer setup request) tries v held is at k = fires_so (fired tries (errands.Disconnection held.own) request v) (errands.Disconnection held.own) (ends RetryLimit held) v (lost_ended v held held.stage refl at k) k
  end_at (Closing peer request checked) tries v held is at k = fires_so (fired tries (errands.Disconnection held.own) request v) (errands.Disconnection held.own) (loses_end held) v (loses_so v held (Closing peer request checked) is refl at k) k
  end_at (Crossed peer request) tries v held is at k = fires_so (fired tries (errands.Disconnection held.own) request v) (errands.Disconnection held.own) (loses_end held) v (loses_so v held (Crossed peer request) is refl at k) k

  end_held : (found : Option Held) (own tries : ℕ) (v : Channels) → held_at own v ≡ found → K v → K (times_end found tries v)
  end_held None own tries v at k = k
  end_held (Some held) own tries v at k = end_at held.stage tries v held refl (found-own own v held at) k

  channels_so : (tries : ℕ) (owns : List ℕ) (v : Channels) → K v → K (times_channels tries owns v)
  channels_so tries [] v k = k
  channels_so tries (own ∷ owns) v k =
      let u : Channels = times_held (held_at own v) tries v in
      channels_so tries owns (times_end (held_at own u) tries u) (end_held (held_at own u) own tries u refl (timed_held (held_at own v) own tries v refl k))

  features_so : (asked : Option Request) (tries : ℕ) (v : Channels) → v.features ≡ asked → K v → K (times_features asked tries v)
  features_so None tries v is k = k
  features_so (Some request) tries v is k = fires_so (fired tries errands.Features request v) errands.Features loses_features v (fine.misses v (loses_features v) request is refl k) k

  pub timed-fine : (policy : Policy) (v : Channels) → K v → K (timed_out policy v)
  timed-fine policy v k =
      let after : Channels = times_channels policy.tries (map (λ held. held.own) v.held) v in
      features_so after.features policy.tries after refl (channels_so policy.tries (map (λ held. held.own) v.held) v k)
