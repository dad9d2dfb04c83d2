-- Whatever happens to a host, all that it holds, remembers and lets wait is fit; so what it gives is fit for a link.
use Rattle.std.proofs.Common.{◌≡◌, ℕ, ◌^◌, ◌<◌, ◌≤◌, List, [], ◌∷◌, ◌++◌, length, map, drop, fold, Bool, true, false, cond, eqb, Option, Some, None, Ok, Err, refl, sym, subst, ◌∙◌, arith}
use Rattle.std.specs.Prelude.{find, option_map, is_some, nat_le, nat_lt, not, unwrap_or}
use Rattle.std.specs.List.{AllByRecursion, list_any}
use Rattle.std.proofs.lemmas.Bool.{eqb-true, eqb-false, ltb-false}
use Rattle.own_channel_laws.specs.talk_laws.specs.acl_fragments.specs.Pieces.{channel_of}
use Rattle.own_channel_laws.specs.talk_laws.specs.bt_base.specs.Octets.{IsOctets}
use Rattle.own_channel_laws.specs.talk_laws.specs.ertm_frames.specs.Frames.{PlainFrame}
use Rattle.own_channel_laws.specs.channel_model.specs.ertm_model.specs.Giving.{next_frame}
use Rattle.own_channel_laws.specs.talk_laws.specs.l2cap_signal.specs.Commands.{Content, Command, reject, connection_request, connection_response, configuration_request, configuration_response, disconnection_request, disconnection_response, echo_request, echo_response, information_request, information_response, rest_of, payload_of, spelling, IsCommand}
use Rattle.own_channel_laws.specs.talk_laws.specs.l2cap_signal.specs.Reading.{Answer as Read, answers}
use Rattle.own_channel_laws.specs.talk_laws.specs.l2cap_signal.specs.declared.refusal.SignalRefusal.{SignalRefusal}
use Rattle.own_channel_laws.specs.talk_laws.specs.l2cap_signal.specs.declared.refusal.SignalRefusal.TheVariants.{ZeroIdentifier, BadLength, UnknownCode, AboveMtu}
use Rattle.own_channel_laws.specs.talk_laws.specs.l2cap_signal.proofs.Contents.{octets_behind}
use Rattle.own_channel_laws.specs.talk_laws.specs.l2cap_config.specs.declared.wish.Wish.{Wish}
use Rattle.own_channel_laws.specs.talk_laws.specs.l2cap_config.proofs.TypeLists.{unknown_none}
use Rattle.own_channel_laws.specs.channel_model.specs.declared.errand.Errand.{Errand}
use Rattle.own_channel_laws.specs.channel_model.specs.declared.errand.Errand.TheVariants as errands
use Rattle.own_channel_laws.specs.channel_model.specs.declared.event.ChannelEvent.{ChannelEvent}
use Rattle.own_channel_laws.specs.channel_model.specs.declared.event.ChannelEvent.TheVariants.{Features}
use Rattle.own_channel_laws.specs.channel_model.specs.declared.request_kind.RequestKind.{RequestKind}
use Rattle.own_channel_laws.specs.channel_model.specs.declared.request_kind.RequestKind.TheVariants as kinds
use Rattle.own_channel_laws.specs.channel_model.specs.Value.{Request, Queued, Answer, Ask, Own, Unasked, Asking, Granted, Carrier, Plain, Retransmitting, Setup, no_setup, Stage, Requested, Connected, Leaving, Closing, Crossed, Held, Remembered, Memory, Channels, no_channels}
use Rattle.own_channel_laws.specs.channel_model.specs.Policies.{Policy}
use Rattle.own_channel_laws.specs.channel_model.specs.Changing.{has_own, has_peer, held_at, is_peer, is_due, setup_of, forgets, tells}
use Rattle.own_channel_laws.specs.channel_model.specs.Configuring.{Verdict, NoChannel, TooLate, Unreadable, Incomplete, Judged, verdict, follows_verdict}
use Rattle.own_channel_laws.specs.channel_model.specs.Asking.{new_request, asks, StillDue, OnceMore, Spent}
use Rattle.own_channel_laws.specs.channel_model.specs.Closing.{peer_closes_at}
use Rattle.own_channel_laws.specs.channel_model.specs.Answers.{kind_of_code, remembered, with_remembered, not_understood, too_long, answer_to}
use Rattle.own_channel_laws.specs.channel_model.specs.Following.{with_channel, follows_setup, follows_configuration, follows_disconnection, follows, remembers, says, can_say, hears_new, hears_again, hears_kind, hears_request}
use Rattle.own_channel_laws.specs.channel_model.specs.Responses.{has_identifier, hears_features, features_in}
use Rattle.own_channel_laws.specs.channel_model.specs.Hearing.{hears_content, hears_malformed, is_response_code, is_kind, hears_unread, hears_refused, hears_command, hears_commands, hears}
use Rattle.own_channel_laws.specs.channel_model.specs.Carrying.{takes}
use Rattle.own_channel_laws.specs.channel_model.specs.Timing.{fires, times_held, times_end, times_channel, times_channels, loses_features, times_features, timed_out}
use Rattle.own_channel_laws.specs.channel_model.specs.Giving.{Given, Signal, Whole, Framed, connection_at, configuration_by, configuration_at, disconnection_at, on_held, features_command, command_of, stage_given, counted, some_carrier_gives, stage_gives, gives, carrier_spent, held_gives, held_given, queue_gives, queue_given, next_given, after_given, headed, IsPdu}
use Rattle.own_channel_laws.specs.channel_model.specs.Calls.{connected, asks_features, disconnected, sends}
use Rattle.channel_laws.specs.Belonging.{IsFit}
use Rattle.channel_laws.specs.Fit.{IsSoberFor, GivenIsFit}
use Rattle.own_channel_laws.specs.Runs.{Occurrence, Comes, Connects, AsksFeatures, Disconnects, Sends, Gives, Fires, Tells, peer_at, value_after, Run, new_link, run_on, run_of}
use Rattle.own_channel_laws.specs.Views.{peer_of}
use Rattle.own_channel_laws.proofs.Lasting.{asked_by, answers_of, answers-asked, forgotten, asked-with, Lasts, follows-lasts, grant-lasts, response-lasts, end-lasts, takes-lasts, connects-lasts, disconnects-last, sends-last, gives-last, times-last, ends-last}
use Rattle.own_channel_laws.proofs.Fitting.{IsEndpoint, IsNumbered, FitsOwn, FitsSetup, FitsStage, FitsHeld, FitsFound, FitsSome, Fits, either, fits-found, setup-fits, next-some, made, peer_closed, followed, parted, unread, grant-fits, response-fits, end-fits, takes-fits, connects-fits, disconnects-fits, sends-fits, gives-fits, times-fits, ends-fit}
use Rattle.own_channel_laws.proofs.Modest.{IsModest, IsModestCommand, IsModestRead, IsModestAnswer, heard-modest, FitsVerdict, verdict-fits, short-written, unread-modest, long-modest, answer-modest}

-- ---- all that a host holds

abbrev pub IsAsked : Option ℕ → Type 0
IsAsked None = Unit {0}
IsAsked (Some identifier) = 0 < identifier

abbrev pub IsRemembered : Option Remembered → Type 0
IsRemembered None = Unit {0}
IsRemembered (Some last) = IsModestAnswer last.response

pub record AreRemembered (memory : Memory) : Type 0 where
  pub connection : IsRemembered memory.connection
  pub configuration : IsRemembered memory.configuration
  pub disconnection : IsRemembered memory.disconnection
  pub echo : IsRemembered memory.echo
  pub information : IsRemembered memory.information

-- an SDU and a frame are for an endpoint that a channel can have
abbrev pub IsForEndpoint : Given → Type 0
IsForEndpoint (Signal command) = Unit {0}
IsForEndpoint (Whole peer sdu) = (peer < 2 ^ 16) × (eqb peer 0x0001 ≡ false)
IsForEndpoint (Framed peer frame) = (peer < 2 ^ 16) × (eqb peer 0x0001 ≡ false)

-- a PSM of two octets
abbrev pub IsLowPsm : ℕ → Type 0
IsLowPsm psm = psm < 2 ^ 16

pub low-psm : (n : ℕ) → n < 2 ^ 16 → IsLowPsm n
low-psm n small = small

-- where `F` is what is asked of a PSM, and so of each that comes in
module _ (F : ℕ → Type 0) (low_psm : (n : ℕ) → n < 2 ^ 16 → F n) where
  pub record Fitted (v : Channels) : Type 0 where
    pub core : Fits F v
    pub features : IsAsked (asked_by v.features)
    pub answers : AllByRecursion IsModestCommand (answers_of v.queue)
    pub memory : AreRemembered v.memory

  lasting : (v w : Channels) → Lasts v w → Fits F w → Fitted v → Fitted w
  lasting v w (features, memory, waiting) core fitted = record {
    core = core;
    features = subst IsAsked (sym features) fitted.features;
    answers = subst (AllByRecursion IsModestCommand) (sym waiting) fitted.answers;
    memory = subst AreRemembered (sym memory) fitted.memory;
  }

  either_fitted : (b : Bool) (x y : Channels) → Fitted x → Fitted y → Fitted (cond b x y)
  either_fitted true x y one other = one
  either_fitted false x y one other = other

  pub told-fitted : (events : List ChannelEvent) (v : Channels) → Fitted v → Fitted (record v { events = events })
  told-fitted events v fitted = record { core = fitted.core; features = fitted.features; answers = fitted.answers; memory = fitted.memory }

  pub new-fitted : (events : List ChannelEvent) → Fitted (record no_channels { events = events })
  new-fitted events = record {
    core = record { held = tt; identifier = omega arith; low = omega arith; high = omega arith };
    features = tt;
    answers = tt;
    memory = record { connection = tt; configuration = tt; disconnection = tt; echo = tt; information = tt };
  }

  -- ---- a request of the peer

  recalled : (kind : RequestKind) (memory : Memory) → AreRemembered memory → IsRemembered (remembered kind memory)
  recalled kinds.Connection memory all = all.connection
  recalled kinds.Configuration memory all = all.configuration
  recalled kinds.Disconnection memory all = all.disconnection
  recalled kinds.Echo memory all = all.echo
  recalled kinds.Information memory all = all.information

  recalls : (kind : RequestKind) (last : Remembered) (memory : Memory) → IsModestAnswer last.response → AreRemembered memory → AreRemembered (with_remembered kind last memory)
  recalls kinds.Connection last memory now r = record { connection = now; configuration = r.configuration; disconnection = r.disconnection; echo = r.echo; information = r.information }
  recalls kinds.Configuration last memory now r = record { connection = r.connection; configuration = now; disconnection = r.disconnection; echo = r.echo; information = r.information }
  recalls kinds.Disconnection last memory now r = record { connection = r.connection; configuration = r.configuration; disconnection = now; echo = r.echo; information = r.information }
  recalls kinds.Echo last memory now r = record { connection = r.connection; configuration = r.configuration; disconnection = r.disconnection; echo = now; information = r.information }
  recalls kinds.Information last memory now r = record { connection = r.connection; configuration = r.configuration; disconnection = r.disconnection; echo = r.echo; information = now }

  more_answers : (queue : List Queued) (command : Command) → AllByRecursion IsModestCommand (answers_of queue) → IsModestCommand command → AllByRecursion IsModestCommand (answers_of (queue ++ Answer command ∷ []))
  more_answers [] command all now = (now, tt)
  more_answers (Answer other ∷ queue) command all now = (all.0, more_answers queue command all.1 now)
  more_answers (Ask errand ∷ queue) command all now = more_answers queue command all now

  said : (identifier : ℕ) (response : Option Content) (v : Channels) → 0 < identifier → IsModestAnswer response → Fitted v → Fitted (says identifier response v)
  said identifier None v some so fitted = fitted
  said identifier (Some content) v some so fitted = record {
    core = fitted.core;
    features = fitted.features;
    answers = more_answers v.queue (record { identifier = identifier; content = content }) fitted.answers (some, so);
    memory = fitted.memory;
  }

  again : (identifier : ℕ) (response : Option Content) (v : Channels) → 0 < identifier → IsModestAnswer response → Fitted v → Fitted (hears_again identifier response v)
  again identifier response v some so fitted = either_fitted (can_say response v) (says identifier response v) v (said identifier response v some so fitted) fitted

  anew : (kind : RequestKind) (identifier : ℕ) (response : Option Content) (more : Channels → Channels) (v : Channels) → 0 < identifier → IsModestAnswer response → ((u : Channels) → Fitted u → Fitted (more u)) → Fitted v → Fitted (hears_new kind identifier response more v)
  anew kind identifier response more v some so goes fitted =
      let last : Remembered = record { identifier = identifier; response = response } in
      let u : Channels = remembers kind identifier response v in
      let recalled : Fitted u = record { core = fitted.core; features = fitted.features; answers = fitted.answers; memory = recalls kind last v.memory so fitted.memory } in
      either_fitted (can_say response v) (more (says identifier response u)) v (goes (says identifier response u) (said identifier response u some so recalled)) fitted

  of_kind : (last : Option Remembered) (kind : RequestKind) (identifier : ℕ) (response : Option Content) (more : Channels → Channels) (v : Channels) → 0 < identifier → IsRemembered last → IsModestAnswer response → ((u : Channels) → Fitted u → Fitted (more u)) → Fitted v
      → Fitted (hears_kind last kind identifier response more v)
  of_kind None kind identifier response more v some old so goes fitted = anew kind identifier response more v some so goes fitted
  of_kind (Some last) kind identifier response more v some old so goes fitted =
      either_fitted (eqb last.identifier identifier) (hears_again identifier last.response v) (hears_new kind identifier response more v) (again identifier last.response v some old fitted) (anew kind identifier response more v some so goes fitted)

  asked_of : (kind : RequestKind) (identifier : ℕ) (response : Option Content) (more : Channels → Channels) (v : Channels) → 0 < identifier → IsModestAnswer response → ((u : Channels) → Fitted u → Fitted (more u)) → Fitted v → Fitted (hears_request kind identifier response more v)
  asked_of kind identifier response more v some so goes fitted = of_kind (remembered kind v.memory) kind identifier response more v some (recalled kind v.memory fitted.memory) so goes fitted

  -- ---- what follows from it

  made_so : (policy : Policy) (psm source : ℕ) (v : Channels) → psm < 2 ^ 16 → source < 2 ^ 16 → Fits F v → Fits F (follows policy (connection_request psm source) v)
  made_so policy psm source v small low fits = by (policy.offers psm) (nat_le 4 (length v.held)) (nat_lt 0xFFFF v.next) refl (nat_lt source 0x0040) refl (list_any (has_peer source) v.held)
    where
      by : (a b c : Bool) → nat_lt 0xFFFF v.next ≡ c → (d : Bool) → nat_lt source 0x0040 ≡ d → (e : Bool)
          → Fits F (cond (eqb (cond (not a) 2 (cond b 4 (cond c 4 (cond d 6 (cond e 7 0))))) 0) (with_channel psm (Connected source no_setup) v) v)
      by false b c is d low_is e = fits
      by true true c is d low_is e = fits
      by true false true is d low_is e = fits
      by true false false is true low_is e = fits
      by true false false is false low_is true = fits
      by true false false is false low_is false =
          made F psm (Connected source no_setup) v (low_psm psm small) ((ltb-false source 0x0040 low_is, low), record { own = tt; parts = unknown_none }) (ltb-false 0xFFFF v.next is) fits

  verdict_follows : (now : Verdict) (wish : Wish) (held : Held) (setup : Setup) (v : Channels) → FitsVerdict now → FitsHeld F held → FitsSetup setup → Fits F v → Fits F (follows_verdict now wish held setup v)
  verdict_follows NoChannel wish held setup v now one so fits = fits
  verdict_follows (TooLate peer) wish held setup v now one so fits = fits
  verdict_follows (Unreadable peer) wish held setup v now one so fits = unread F held setup v one so fits
  verdict_follows (Incomplete peer options) wish held setup v now one so fits = parted F held setup options v one so now.1 fits
  verdict_follows (Judged peer options answer) wish held setup v now one so fits = followed F answer wish options held setup v one so fits

  setup_follows : (found : Option Setup) (policy : Policy) (held : Held) (flags : ℕ) (octets : List ℕ) (v : Channels) → FitsHeld F held → FitsSome found → Fits F v → Fits F (follows_setup found policy held flags octets v)
  setup_follows None policy held flags octets v one so fits = fits
  setup_follows (Some setup) policy held flags octets v one so fits = verdict_follows (verdict policy held.own flags octets v) (policy.wish held.psm) held setup v (verdict-fits F policy held.own flags octets v fits) one so fits

  configuration_follows : (found : Option Held) (policy : Policy) (flags : ℕ) (octets : List ℕ) (v : Channels) → FitsFound F found → Fits F v → Fits F (follows_configuration found policy flags octets v)
  configuration_follows None policy flags octets v one fits = fits
  configuration_follows (Some held) policy flags octets v one fits = setup_follows (setup_of held.stage) policy held flags octets v one (setup-fits held.stage one.stage) fits

  disconnection_follows : (found : Option Held) (peer : ℕ) (v : Channels) → FitsFound F found → Fits F v → Fits F (follows_disconnection found peer v)
  disconnection_follows None peer v one fits = fits
  disconnection_follows (Some held) peer v one fits = either F (is_peer peer held.stage) (peer_closes_at held.stage held v) v (peer_closed F held.stage held v one.stage one fits) fits

  follows_fits : (policy : Policy) (content : Content) (v : Channels) → IsModest content → Fits F v → Fits F (follows policy content v)
  follows_fits policy (reject reason rest) v so fits = fits
  follows_fits policy (connection_request psm source) v so fits = made_so policy psm source v so.words.0 so.words.1.0 fits
  follows_fits policy (connection_response destination source answer status) v so fits = fits
  follows_fits policy (configuration_request destination flags options) v so fits = configuration_follows (held_at destination v) policy flags options v (fits-found F (has_own destination) v fits) fits
  follows_fits policy (configuration_response source flags answer options) v so fits = fits
  follows_fits policy (disconnection_request destination source) v so fits = disconnection_follows (held_at destination v) source v (fits-found F (has_own destination) v fits) fits
  follows_fits policy (disconnection_response destination source) v so fits = fits
  follows_fits policy (echo_request octets) v so fits = fits
  follows_fits policy (echo_response octets) v so fits = fits
  follows_fits policy (information_request kind) v so fits = fits
  follows_fits policy (information_response kind answer rest) v so fits = fits

  -- ---- a command

  questioned : (policy : Policy) (kind : RequestKind) (identifier : ℕ) (content : Content) (v : Channels) → 0 < identifier → IsModest content → Fitted v → Fitted (hears_request kind identifier (answer_to policy content v) (follows policy content) v)
  questioned policy kind identifier content v some so fitted =
      asked_of kind identifier (answer_to policy content v) (follows policy content) v some (answer-modest F policy content v so fitted.core)
      (λ u now. lasting u (follows policy content u) (follows-lasts policy content u) (follows_fits policy content u so now.core) now) fitted

  featured : (identifier : ℕ) (given : Option ℕ) (v : Channels) → Fitted v → Fitted (hears_features identifier given v)
  featured identifier given v fitted =
      either_fitted (has_identifier identifier v.features) (tells (Features given) (forgets errands.Features (record v { features = None }))) v (record {
        core = fitted.core;
        features = tt;
        answers = subst (AllByRecursion IsModestCommand) (sym (forgotten errands.Features v.queue)) fitted.answers;
        memory = fitted.memory;
      }) fitted

  content_fitted : (policy : Policy) (identifier : ℕ) (content : Content) (v : Channels) → 0 < identifier → IsModest content → Fitted v → Fitted (hears_content policy identifier content v)
  content_fitted policy identifier (reject reason rest) v some so fitted = featured identifier None v fitted
  content_fitted policy identifier (connection_request psm source) v some so fitted = questioned policy kinds.Connection identifier (connection_request psm source) v some so fitted
  content_fitted policy identifier (connection_response destination source answer status) v some so fitted =
      lasting v _ (grant-lasts v (held_at source v) policy identifier destination answer) (grant-fits F (held_at source v) policy identifier destination answer v so.words.0 (fits-found F (has_own source) v fitted.core) fitted.core) fitted
  content_fitted policy identifier (configuration_request destination flags options) v some so fitted = questioned policy kinds.Configuration identifier (configuration_request destination flags options) v some so fitted
  content_fitted policy identifier (configuration_response source flags answer options) v some so fitted =
      lasting v _ (response-lasts v (held_at source v) policy identifier answer options) (response-fits F (held_at source v) policy identifier answer options v (fits-found F (has_own source) v fitted.core) fitted.core) fitted
  content_fitted policy identifier (disconnection_request destination source) v some so fitted = questioned policy kinds.Disconnection identifier (disconnection_request destination source) v some so fitted
  content_fitted policy identifier (disconnection_response destination source) v some so fitted = lasting v _ (end-lasts v (held_at source v) destination) (end-fits F (held_at source v) destination v fitted.core) fitted
  content_fitted policy identifier (echo_request octets) v some so fitted = questioned policy kinds.Echo identifier (echo_request octets) v some so fitted
  content_fitted policy identifier (echo_response octets) v some so fitted = fitted
  content_fitted policy identifier (information_request kind) v some so fitted = questioned policy kinds.Information identifier (information_request kind) v some so fitted
  content_fitted policy identifier (information_response kind answer rest) v some so fitted = featured identifier (features_in kind answer rest) v fitted

  malformed : (kind : Option RequestKind) (identifier : ℕ) (v : Channels) → 0 < identifier → Fitted v → Fitted (hears_malformed kind identifier v)
  malformed None identifier v some fitted = fitted
  malformed (Some kind) identifier v some fitted = asked_of kind identifier (Some not_understood) (λ w. w) v some unread-modest (λ u now. now) fitted

  some_there : (n : ℕ) → eqb n 0 ≡ false → 0 < n
  some_there n is = omega (arith, eqb-false n 0 is)

  unread_fitted : (code identifier : ℕ) (v : Channels) → Fitted v → Fitted (hears_unread code identifier v)
  unread_fitted code identifier v fitted = by (eqb identifier 0) refl
    where
      by : (none : Bool) → eqb identifier 0 ≡ none
          → Fitted (cond none v (cond (is_response_code code) v (cond (is_kind (kind_of_code code)) (hears_malformed (kind_of_code code) identifier v) (hears_again identifier (Some not_understood) v))))
      by true is = fitted
      by false is =
          let some = some_there identifier is in
          either_fitted (is_response_code code) v _ fitted (either_fitted (is_kind (kind_of_code code)) (hears_malformed (kind_of_code code) identifier v) (hears_again identifier (Some not_understood) v)
          (malformed (kind_of_code code) identifier v some fitted) (again identifier (Some not_understood) v some unread-modest fitted))

  long_fitted : (identifier : ℕ) (v : Channels) → Fitted v → Fitted (hears_refused (AboveMtu 0 (Some identifier)) v)
  long_fitted identifier v fitted = by (eqb identifier 0) refl
    where
      by : (none : Bool) → eqb identifier 0 ≡ none → Fitted (cond none v (hears_again identifier (Some too_long) v))
      by true is = fitted
      by false is = again identifier (Some too_long) v (some_there identifier is) long-modest fitted

  refused_fitted : (refusal : SignalRefusal) (v : Channels) → Fitted v → Fitted (hears_refused refusal v)
  refused_fitted (ZeroIdentifier code identifier) v fitted = fitted
  refused_fitted (BadLength code None) v fitted = fitted
  refused_fitted (BadLength code (Some identifier)) v fitted = unread_fitted code identifier v fitted
  refused_fitted (UnknownCode code None) v fitted = fitted
  refused_fitted (UnknownCode code (Some identifier)) v fitted = unread_fitted code identifier v fitted
  refused_fitted (AboveMtu code None) v fitted = fitted
  refused_fitted (AboveMtu code (Some identifier)) v fitted = long_fitted identifier v fitted

  command_fitted : (policy : Policy) (one : Read) (v : Channels) → IsModestRead one → Fitted v → Fitted (hears_command policy one v)
  command_fitted policy (Ok command) v so fitted = content_fitted policy command.identifier command.content v so.0 so.1 fitted
  command_fitted policy (Err refusal) v so fitted = refused_fitted refusal v fitted

  commands_fitted : (policy : Policy) (list : List Read) (v : Channels) → AllByRecursion IsModestRead list → Fitted v → Fitted (hears_commands policy list v)
  commands_fitted policy [] v all fitted = fitted
  commands_fitted policy (one ∷ list) v all fitted = commands_fitted policy list (hears_command policy one v) all.1 (command_fitted policy one v all.0 fitted)

  pub comes-fitted : (policy : Policy) (pdu : List ℕ) (v : Channels) → (channel_of pdu ≡ 0x0001 → IsOctets pdu) → Fitted v → Fitted (hears policy (channel_of pdu) pdu v)
  comes-fitted policy pdu v octets fitted = by (eqb (channel_of pdu) 0x0001) refl
    where
      by : (signals : Bool) → eqb (channel_of pdu) 0x0001 ≡ signals → Fitted (cond signals (hears_commands policy (answers (drop 4 pdu)) v) (takes (channel_of pdu) pdu v))
      by true is = commands_fitted policy (answers (drop 4 pdu)) v (heard-modest (drop 4 pdu) (octets_behind 4 pdu (octets (eqb-true (channel_of pdu) 0x0001 is)))) fitted
      by false is = lasting v (takes (channel_of pdu) pdu v) (takes-lasts (channel_of pdu) pdu v) (takes-fits F (channel_of pdu) pdu v fitted.core) fitted

  -- ---- what it does by itself

  pub connects-fitted : (psm : ℕ) (v : Channels) → F psm → Fitted v → Fitted (connected psm v)
  connects-fitted psm v small fitted = lasting v (connected psm v) (connects-lasts psm v) (connects-fits F psm v small fitted.core) fitted

  pub asks-fitted : (v : Channels) → Fitted v → Fitted (asks_features v)
  asks-fitted v fitted =
      let core = fitted.core in
      either_fitted (is_some v.features) v (asks errands.Features (record v { features = Some (new_request v) })) fitted (record {
        core = record { held = core.held; identifier = next-some v.identifier; low = core.low; high = core.high };
        features = core.identifier;
        answers = subst (AllByRecursion IsModestCommand) (sym (asked-with errands.Features v.queue)) fitted.answers;
        memory = fitted.memory;
      })

  pub disconnects-fitted : (own : ℕ) (v : Channels) → Fitted v → Fitted (disconnected own v)
  disconnects-fitted own v fitted = lasting v (disconnected own v) (disconnects-last own v) (disconnects-fits F own v fitted.core) fitted

  pub sends-fitted : (own : ℕ) (sdu : List ℕ) (v : Channels) → Fitted v → Fitted (sends own sdu v)
  sends-fitted own sdu v fitted = lasting v (sends own sdu v) (sends-last own sdu v) (sends-fits F own sdu v fitted.core) fitted

  -- ---- the timer

  channel_timed : (tries own : ℕ) (v : Channels) → Fitted v → Fitted (times_channel tries own v)
  channel_timed tries own v fitted =
      let after : Channels = times_held (held_at own v) tries v in
      let now : Fitted after = lasting v after (times-last tries own v) (times-fits F tries own v fitted.core) fitted in
      lasting after (times_end (held_at own after) tries after) (ends-last tries own after) (ends-fit F tries own after now.core) now

  channels_timed : (tries : ℕ) (owns : List ℕ) (v : Channels) → Fitted v → Fitted (times_channels tries owns v)
  channels_timed tries [] v fitted = fitted
  channels_timed tries (own ∷ owns) v fitted = channels_timed tries owns (times_channel tries own v) (channel_timed tries own v fitted)

  features_timed : (features : Option Request) (tries : ℕ) (v : Channels) → Fitted v → Fitted (times_features features tries v)
  features_timed None tries v fitted = fitted
  features_timed (Some request) tries v fitted = by (is_due errands.Features v) (nat_le tries request.given)
    where
      by : (due most : Bool) → Fitted (fires (cond due StillDue (cond most Spent OnceMore)) errands.Features loses_features v)
      by true most = fitted
      by false true = record { core = fitted.core; features = tt; answers = fitted.answers; memory = fitted.memory }
      by false false = record { core = fitted.core; features = fitted.features; answers = subst (AllByRecursion IsModestCommand) (sym (answers-asked v.queue errands.Features)) fitted.answers; memory = fitted.memory }

  pub timed-fitted : (policy : Policy) (v : Channels) → Fitted v → Fitted (timed_out policy v)
  timed-fitted policy v fitted =
      let after : Channels = times_channels policy.tries (map (λ held. held.own) v.held) v in
      features_timed after.features policy.tries after (channels_timed policy.tries (map (λ (held : Held). held.own) v.held) v fitted)

  -- ---- the next PDU

  held_same : (v : Channels) (found : Option Held) → (held_given found v).queue ≡ v.queue
  held_same v None = refl
  held_same v (Some held) = by (setup_of held.stage)
    where
      by : (setup : Option Setup) → (carrier_spent setup held v).queue ≡ v.queue
      by None = refl
      by (Some setup) = refl

  stage_same : (v : Channels) (f : Stage → Stage) (found : Option Held) → (stage_given f found v).queue ≡ v.queue
  stage_same v f None = refl
  stage_same v f (Some held) = refl

  counted_same : (v : Channels) (errand : Errand) → (counted errand v).queue ≡ v.queue
  counted_same v (errands.Connection own) = stage_same v _ (held_at own v)
  counted_same v (errands.Configuration own) = stage_same v _ (held_at own v)
  counted_same v (errands.Disconnection own) = stage_same v _ (held_at own v)
  counted_same v errands.Features = refl

  queue_less : (queue : List Queued) (v : Channels) → v.queue ≡ queue → AllByRecursion IsModestCommand (answers_of queue) → AllByRecursion IsModestCommand (answers_of (queue_given queue v).queue)
  queue_less [] v is all = subst (λ (q : List Queued). AllByRecursion IsModestCommand (answers_of q)) (sym (held_same v (find gives v.held) ∙ is)) tt
  queue_less (Answer command ∷ behind) v is all = all.1
  queue_less (Ask errand ∷ behind) v is all = subst (λ (q : List Queued). AllByRecursion IsModestCommand (answers_of q)) (sym (counted_same (record v { queue = behind }) errand)) all

  pub gives-fitted : (v : Channels) → Fitted v → Fitted (after_given v)
  gives-fitted v fitted =
      let (features, memory) = gives-last v in
      record {
        core = gives-fits F v fitted.core;
        features = subst IsAsked (sym features) fitted.features;
        answers = queue_less v.queue v refl fitted.answers;
        memory = subst AreRemembered (sym memory) fitted.memory;
      }

  -- ---- what is given

  -- a command in octets that is modest is one
  rest_octets : (what : Content) → IsOctets (payload_of what) → IsOctets (rest_of what)
  rest_octets (reject reason rest) octets = octets_behind 2 (payload_of (reject reason rest)) octets
  rest_octets (connection_request psm source) octets = octets_behind 4 (payload_of (connection_request psm source)) octets
  rest_octets (connection_response destination source answer status) octets = octets_behind 8 (payload_of (connection_response destination source answer status)) octets
  rest_octets (configuration_request destination flags options) octets = octets_behind 4 (payload_of (configuration_request destination flags options)) octets
  rest_octets (configuration_response source flags answer options) octets = octets_behind 6 (payload_of (configuration_response source flags answer options)) octets
  rest_octets (disconnection_request destination source) octets = octets_behind 4 (payload_of (disconnection_request destination source)) octets
  rest_octets (disconnection_response destination source) octets = octets_behind 4 (payload_of (disconnection_response destination source)) octets
  rest_octets (echo_request it) octets = octets
  rest_octets (echo_response it) octets = octets
  rest_octets (information_request kind) octets = octets_behind 2 (payload_of (information_request kind)) octets
  rest_octets (information_response kind answer rest) octets = octets_behind 4 (payload_of (information_response kind answer rest)) octets

  command_fit : (c : Command) (pdu : List ℕ) → IsModestCommand c → pdu ≡ headed 0x0001 (spelling c) → IsOctets pdu → IsCommand c × (length (spelling c) ≤ 672)
  command_fit c pdu (some, so) is octets =
      let whole : IsOctets (headed 0x0001 (spelling c)) = subst IsOctets is octets in
      let spelled : IsOctets (spelling c) = octets_behind 4 (headed 0x0001 (spelling c)) whole in
      let payload : IsOctets (payload_of c.content) = octets_behind 4 (spelling c) spelled in
      let size = so.size in
      (record { above_zero = some; octet = spelled 1; content = record { words = so.words; rest = rest_octets c.content payload; size = omega (arith, size) } }, omega (arith, size))

  apart : (peer : ℕ) → 0x0040 ≤ peer → eqb peer 0x0001 ≡ false
  apart peer low = by (eqb peer 0x0001) refl
    where
      by : (b : Bool) → eqb peer 0x0001 ≡ b → b ≡ false
      by true is = absurd (let same = eqb-true peer 0x0001 is in omega (arith, low, same))
      by false is = refl

  abbrev IsGivenFit : List ℕ → Option Given → Type 0
  IsGivenFit pdu given = (one : Given) → given ≡ Some one → IsPdu one pdu → IsFit one

  none_fit : (pdu : List ℕ) → IsGivenFit pdu None
  none_fit pdu one is = cc

  signal_fit : (pdu : List ℕ) (c : Command) → IsOctets pdu → IsModestCommand c → IsGivenFit pdu (Some (Signal c))
  signal_fit pdu c octets so one is = subst (λ (g : Given). IsPdu g pdu → IsFit g) (let same : Signal c ≡ one = cc in same) (λ spelled. command_fit c pdu so spelled octets)

  whole_fit : (pdu : List ℕ) (peer : ℕ) (sdu : List ℕ) → IsEndpoint peer → IsGivenFit pdu (Some (Whole peer sdu))
  whole_fit pdu peer sdu there one is = subst (λ (g : Given). IsPdu g pdu → IsFit g) (let same : Whole peer sdu ≡ one = cc in same) (λ any. (there.1, apart peer there.0))

  framed_fit : (pdu : List ℕ) (peer : ℕ) (frame : PlainFrame) → IsEndpoint peer → IsGivenFit pdu (Some (Framed peer frame))
  framed_fit pdu peer frame there one is = subst (λ (g : Given). IsPdu g pdu → IsFit g) (let same : Framed peer frame ≡ one = cc in same) (λ any. apart peer there.0)

  carrier_fit : (pdu : List ℕ) (carrier : Option Carrier) (peer : ℕ) → IsEndpoint peer → IsGivenFit pdu (some_carrier_gives carrier peer)
  carrier_fit pdu None peer there = none_fit pdu
  carrier_fit pdu (Some (Plain agreed None)) peer there = none_fit pdu
  carrier_fit pdu (Some (Plain agreed (Some sdu))) peer there = whole_fit pdu peer sdu there
  carrier_fit pdu (Some (Retransmitting machine)) peer there = by (next_frame machine)
    where
      by : (frame : Option PlainFrame) → IsGivenFit pdu (option_map (Framed peer) frame)
      by None = none_fit pdu
      by (Some frame) = framed_fit pdu peer frame there

  stage_fit : (pdu : List ℕ) (stage : Stage) → FitsStage stage → IsGivenFit pdu (stage_gives stage)
  stage_fit pdu (Requested request) fits = none_fit pdu
  stage_fit pdu (Connected peer setup) fits = carrier_fit pdu setup.carrier peer fits.0
  stage_fit pdu (Leaving peer setup request) fits = carrier_fit pdu setup.carrier peer fits.0
  stage_fit pdu (Closing peer request checked) fits = none_fit pdu
  stage_fit pdu (Crossed peer request) fits = none_fit pdu

  held_fit : (pdu : List ℕ) (found : Option Held) → FitsFound F found → IsGivenFit pdu (held_gives found)
  held_fit pdu None one = none_fit pdu
  held_fit pdu (Some held) one = stage_fit pdu held.stage one.stage

  abbrev IsModestSome : Option Command → Type 0
  IsModestSome None = Unit {0}
  IsModestSome (Some command) = IsModestCommand command

  calls_so : (request : Request) (psm own : ℕ) → IsNumbered request → psm < 2 ^ 16 → IsEndpoint own → IsModestCommand (record { identifier = request.identifier; content = connection_request psm own })
  calls_so request psm own some small there = (some, record { words = (small, (there.1, tt)); size = omega arith })

  call_modest : ((n : ℕ) → F n → n < 2 ^ 16) → (held : Held) → FitsHeld F held → IsModestSome (connection_at held.stage held)
  call_modest small held one = by held.stage one.stage
    where
      by : (stage : Stage) → FitsStage stage → IsModestSome (connection_at stage held)
      by (Requested request) fits = calls_so request held.psm held.own fits (small held.psm one.psm) one.own
      by (Connected peer setup) fits = tt
      by (Leaving peer setup request) fits = tt
      by (Closing peer request checked) fits = tt
      by (Crossed peer request) fits = tt

  wish_so : (own : Own) (peer : ℕ) → FitsOwn own → IsEndpoint peer → IsModestSome (configuration_by own peer)
  wish_so Unasked peer fits there = tt
  wish_so (Asking request options) peer fits there = (fits, record { words = (there.1, (omega arith, tt)); size = omega (arith, short-written options) })
  wish_so Granted peer fits there = tt

  wish_modest : (stage : Stage) → FitsStage stage → IsModestSome (configuration_at stage)
  wish_modest (Requested request) fits = tt
  wish_modest (Connected peer setup) fits = wish_so setup.own peer fits.1.own fits.0
  wish_modest (Leaving peer setup request) fits = wish_so setup.own peer fits.1.own fits.0
  wish_modest (Closing peer request checked) fits = tt
  wish_modest (Crossed peer request) fits = tt

  ends_so : (request : Request) (peer own : ℕ) → IsNumbered request → IsEndpoint peer → IsEndpoint own → IsModestCommand (record { identifier = request.identifier; content = disconnection_request peer own })
  ends_so request peer own some there here = (some, record { words = (there.1, (here.1, tt)); size = omega arith })

  end_modest : (held : Held) → FitsHeld F held → IsModestSome (disconnection_at held.stage held)
  end_modest held one = by held.stage one.stage
    where
      by : (stage : Stage) → FitsStage stage → IsModestSome (disconnection_at stage held)
      by (Requested request) fits = tt
      by (Connected peer setup) fits = tt
      by (Leaving peer setup request) fits = ends_so request peer held.own fits.2 fits.0 one.own
      by (Closing peer request checked) fits = ends_so request peer held.own fits.1 fits.0 one.own
      by (Crossed peer request) fits = ends_so request peer held.own fits.1 fits.0 one.own

  features_modest : (features : Option Request) → IsAsked (asked_by features) → IsModestSome (features_command features)
  features_modest None some = tt
  features_modest (Some request) some = (some, record { words = (omega arith, tt); size = omega arith })

  of_held : (f : Held → Option Command) (found : Option Held) → ((held : Held) → FitsHeld F held → IsModestSome (f held)) → FitsFound F found → IsModestSome (on_held f found)
  of_held f None goes one = tt
  of_held f (Some held) goes one = goes held one

  errand_modest : ((n : ℕ) → F n → n < 2 ^ 16) → (errand : Errand) (v : Channels) → Fitted v → IsModestSome (command_of errand v)
  errand_modest small (errands.Connection own) v fitted = of_held (λ held. connection_at held.stage held) (held_at own v) (call_modest small) (fits-found F (has_own own) v fitted.core)
  errand_modest small (errands.Configuration own) v fitted = of_held (λ held. configuration_at held.stage) (held_at own v) (λ held one. wish_modest held.stage one.stage) (fits-found F (has_own own) v fitted.core)
  errand_modest small (errands.Disconnection own) v fitted = of_held (λ held. disconnection_at held.stage held) (held_at own v) end_modest (fits-found F (has_own own) v fitted.core)
  errand_modest small errands.Features v fitted = features_modest v.features fitted.features

  command_given : (pdu : List ℕ) (found : Option Command) → IsOctets pdu → IsModestSome found → IsGivenFit pdu (option_map Signal found)
  command_given pdu None octets so = none_fit pdu
  command_given pdu (Some command) octets so = signal_fit pdu command octets so

  queue_fit : ((n : ℕ) → F n → n < 2 ^ 16) → (pdu : List ℕ) (queue : List Queued) (v : Channels) → IsOctets pdu → AllByRecursion IsModestCommand (answers_of queue) → Fitted v → IsGivenFit pdu (queue_gives queue v)
  queue_fit small pdu [] v octets all fitted = held_fit pdu (find gives v.held) (fits-found F gives v fitted.core)
  queue_fit small pdu (Answer command ∷ behind) v octets all fitted = signal_fit pdu command octets all.0
  queue_fit small pdu (Ask errand ∷ behind) v octets all fitted = command_given pdu (command_of errand v) octets (errand_modest small errand v fitted)

  pub given-fit : ((n : ℕ) → F n → n < 2 ^ 16) → (v : Channels) (given : Given) (pdu : List ℕ) → Fitted v → next_given v ≡ Some given → IsPdu given pdu → IsOctets pdu → IsFit given
  given-fit small v given pdu fitted is spelled octets = queue_fit small pdu v.queue v octets fitted.answers fitted given is spelled

  abbrev IsForSome : Option Given → Type 0
  IsForSome None = Unit {0}
  IsForSome (Some given) = IsForEndpoint given

  carrier_for : (carrier : Option Carrier) (peer : ℕ) → IsEndpoint peer → IsForSome (some_carrier_gives carrier peer)
  carrier_for None peer there = tt
  carrier_for (Some (Plain agreed None)) peer there = tt
  carrier_for (Some (Plain agreed (Some sdu))) peer there = (there.1, apart peer there.0)
  carrier_for (Some (Retransmitting machine)) peer there = by (next_frame machine)
    where
      by : (frame : Option PlainFrame) → IsForSome (option_map (Framed peer) frame)
      by None = tt
      by (Some frame) = (there.1, apart peer there.0)

  stage_for : (stage : Stage) → FitsStage stage → IsForSome (stage_gives stage)
  stage_for (Requested request) fits = tt
  stage_for (Connected peer setup) fits = carrier_for setup.carrier peer fits.0
  stage_for (Leaving peer setup request) fits = carrier_for setup.carrier peer fits.0
  stage_for (Closing peer request checked) fits = tt
  stage_for (Crossed peer request) fits = tt

  held_for : (found : Option Held) → FitsFound F found → IsForSome (held_gives found)
  held_for None one = tt
  held_for (Some held) one = stage_for held.stage one.stage

  queue_for : (queue : List Queued) (v : Channels) → Fitted v → IsForSome (queue_gives queue v)
  queue_for [] v fitted = held_for (find gives v.held) (fits-found F gives v fitted.core)
  queue_for (Answer command ∷ behind) v fitted = tt
  queue_for (Ask errand ∷ behind) v fitted = by (command_of errand v)
    where
      by : (command : Option Command) → IsForSome (option_map Signal command)
      by None = tt
      by (Some command) = tt

  -- each channel is for an endpoint of two octets
  pub peer-low : (own : ℕ) (v : Channels) → Fitted v → peer_at (held_at own v) < 65536
  peer-low own v fitted = by (held_at own v) (fits-found F (has_own own) v fitted.core)
    where
      stage : (stage : Stage) → FitsStage stage → unwrap_or (peer_of stage) 0 < 65536
      stage (Requested request) fits = omega arith
      stage (Connected peer setup) fits = fits.0.1
      stage (Leaving peer setup request) fits = fits.0.1
      stage (Closing peer request checked) fits = fits.0.1
      stage (Crossed peer request) fits = fits.0.1

      by : (found : Option Held) → FitsFound F found → peer_at found < 65536
      by None one = omega arith
      by (Some held) one = stage held.stage one.stage

  pub given-endpoint : (v : Channels) (given : Given) → Fitted v → next_given v ≡ Some given → IsForEndpoint given
  given-endpoint v given fitted is = subst IsForSome is (queue_for v.queue v fitted)

  -- ---- whatever happens

  pub occurs-fitted : (policy : Policy) (v : Channels) (more : Occurrence) → IsSoberFor F more → Fitted v → Fitted (value_after policy more v)
  occurs-fitted policy v (Comes pdu) sober fitted = comes-fitted policy pdu v sober fitted
  occurs-fitted policy v (Connects psm) sober fitted = connects-fitted psm v sober fitted
  occurs-fitted policy v AsksFeatures sober fitted = asks-fitted v fitted
  occurs-fitted policy v (Disconnects own) sober fitted = disconnects-fitted own v fitted
  occurs-fitted policy v (Sends own sdu) sober fitted = sends-fitted own sdu v fitted
  occurs-fitted policy v (Gives pdu) sober fitted = gives-fitted v fitted
  occurs-fitted policy v Fires sober fitted = timed-fitted policy v fitted
  occurs-fitted policy v Tells sober fitted = told-fitted (drop 1 v.events) v fitted

  pub run-fitted : (policy : Policy) (list : List Occurrence) (run : Run) → AllByRecursion (IsSoberFor F) list → Fitted run.value → Fitted (fold (run_on policy) run list).value
  run-fitted policy [] run sober fitted = fitted
  run-fitted policy (more ∷ list) run sober fitted = run-fitted policy list (run_on policy run more) sober.1 (occurs-fitted policy run.value more sober.0 fitted)

-- all of it, of PSMs of two octets
abbrev pub FittedLow : Channels → Type 0
FittedLow v = Fitted IsLowPsm low-psm v

pub given-is_fit : GivenIsFit
given-is_fit policy list given pdu sober is spelled octets =
    given-fit IsLowPsm low-psm (λ n low. low) (run_of policy list).value given pdu (run-fitted IsLowPsm low-psm policy list new_link sober (new-fitted IsLowPsm low-psm [])) is spelled octets
