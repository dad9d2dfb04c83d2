-- The answers of a host are octets and few, where what comes in on the signalling channel are octets (Core 5.1, Volume 3 Part A, 4).
use Rattle.std.proofs.Common.{◌≡◌, ℕ, suc, ◌<◌, ◌≤◌, List, [], ◌∷◌, ◌++◌, length, map, drop, Bool, true, false, cond, eqb, Option, Some, None, Ok, Err, refl, sym, ap, subst, ◌∙◌, arith}
use Rattle.std.specs.Prelude.{find, is_some, nat_le, filter}
use Rattle.std.specs.List.{AllByRecursion}
use Rattle.std.proofs.lemmas.Bool.{ltb-true, eqb-true}
use Rattle.shelf_model.specs.acl_fragments.specs.Pieces.{channel_of}
use Rattle.shelf_model.specs.bt_base.specs.Octets.{IsOctets}
use Rattle.shelf_model.specs.h4_framing.proofs.OctetLists.{IsOctets-nil}
use Rattle.shelf_model.specs.l2cap_signal.specs.Commands.{Content, Command, reject, connection_request, connection_response, configuration_request, configuration_response, disconnection_request, disconnection_response, echo_request, echo_response, information_request, information_response, rest_of}
use Rattle.shelf_model.specs.l2cap_signal.specs.Reading.{Answer as Read, answers}
use Rattle.shelf_model.specs.l2cap_signal.specs.declared.refusal.SignalRefusal.{SignalRefusal}
use Rattle.shelf_model.specs.l2cap_signal.specs.declared.refusal.SignalRefusal.TheVariants.{ZeroIdentifier, BadLength, UnknownCode, AboveMtu}
use Rattle.shelf_model.specs.l2cap_signal.proofs.Contents.{octets_behind}
use Rattle.shelf_model.specs.l2cap_config.specs.declared.wish.Wish.{Wish}
use Rattle.channel_laws.specs.channel_model.specs.declared.errand.Errand.{Errand}
use Rattle.channel_laws.specs.channel_model.specs.declared.errand.Errand.TheVariants as errands
use Rattle.channel_laws.specs.channel_model.specs.declared.event.ChannelEvent.{ChannelEvent}
use Rattle.channel_laws.specs.channel_model.specs.declared.event.ChannelEvent.TheVariants.{Features}
use Rattle.channel_laws.specs.channel_model.specs.declared.request_kind.RequestKind.{RequestKind}
use Rattle.channel_laws.specs.channel_model.specs.declared.request_kind.RequestKind.TheVariants as kinds
use Rattle.channel_laws.specs.channel_model.specs.Value.{Request, Queued, Answer, Ask, Setup, no_setup, Stage, Requested, Connected, Leaving, Closing, Crossed, Held, Remembered, Memory, Channels, no_channels}
use Rattle.channel_laws.specs.channel_model.specs.Policies.{Policy}
use Rattle.channel_laws.specs.channel_model.specs.Changing.{has_own, held_at, is_peer, is_answer, has_room, forgets, tells, is_due, setup_of}
use Rattle.channel_laws.specs.channel_model.specs.Asking.{new_request, asks, StillDue, OnceMore, Spent}
use Rattle.channel_laws.specs.channel_model.specs.Closing.{peer_closes_at}
use Rattle.channel_laws.specs.channel_model.specs.Configuring.{Verdict, NoChannel, TooLate, Unreadable, Incomplete, Judged, judged_stage, verdict_on, verdict, follows_verdict}
use Rattle.channel_laws.specs.channel_model.specs.Answers.{kind_of_code, remembered, with_remembered, not_understood, too_long, connection_result, answer_to}
use Rattle.channel_laws.specs.channel_model.specs.Following.{with_channel, follows_setup, follows_configuration, follows_disconnection, follows, remembers, says, can_say, hears_new, hears_again, hears_kind, hears_request}
use Rattle.channel_laws.specs.channel_model.specs.Responses.{has_identifier, hears_features, features_in}
use Rattle.channel_laws.specs.channel_model.specs.Hearing.{hears_content, hears_malformed, is_response_code, is_kind, hears_unread, hears_refused, hears_command, hears_commands, hears}
use Rattle.channel_laws.specs.channel_model.specs.Carrying.{takes}
use Rattle.channel_laws.specs.channel_model.specs.Timing.{fires, times_held, times_end, times_channel, times_channels, loses_features, times_features, timed_out}
use Rattle.channel_laws.specs.channel_model.specs.Giving.{after_given, queue_given, held_given, carrier_spent, counted, stage_given, gives}
use Rattle.channel_laws.specs.channel_model.specs.Calls.{connected, asks_features, disconnected, sends}
use Rattle.channel_laws.proofs.Lasting.{asked_by, answers_of, answers-asked, forgotten, asked-with, Lasts, follows-lasts, grant-lasts, response-lasts, end-lasts, takes-lasts, connects-lasts, disconnects-last, sends-last, gives-last, times-last, ends-last}
use Rattle.channel_laws.proofs.Fitted.{IsLowPsm, FittedLow}
use Rattle.channel_laws.proofs.Modest.{verdict-fits}
use Rattle.host_laws.proofs.Signals.{word-alone, IsSmallWish, AreSmallWishes, FitsSetup, FitsStage, FitsSome, FitsFound, Fits, either, fits-found, setup-fits, made, peer_closed, followed, parted, unread, grant-fits, response-fits, end-fits, takes-fits, connects-fits, disconnects-fits, sends-fits, gives-fits, times-fits, ends-fit, next-small}
use Rattle.host_laws.proofs.Verdicts.{IsOctetCommand, IsOctetAnswer, IsOctetRefusal, IsOctetRead, heard_octets, FitsVerdict, setup_verdict, configured, disconnected_so, informed}

-- ---- answers that wait

answers_count : (queue : List Queued) → length (filter is_answer queue) ≡ length (answers_of queue)
answers_count [] = refl
answers_count (Answer command ∷ queue) = ap suc (answers_count queue)
answers_count (Ask errand ∷ queue) = answers_count queue

one_more : (queue : List Queued) (command : Command) → length (answers_of (queue ++ Answer command ∷ [])) ≡ suc (length (answers_of queue))
one_more [] command = refl
one_more (Answer other ∷ queue) command = ap suc (one_more queue command)
one_more (Ask errand ∷ queue) command = one_more queue command

more_answers : (queue : List Queued) (command : Command) → AllByRecursion IsOctetCommand (answers_of queue) → IsOctetCommand command → AllByRecursion IsOctetCommand (answers_of (queue ++ Answer command ∷ []))
more_answers [] command all now = (now, tt)
more_answers (Answer other ∷ queue) command all now = (all.0, more_answers queue command all.1 now)
more_answers (Ask errand ∷ queue) command all now = more_answers queue command all now

abbrev IsRemembered : Option Remembered → Type 0
IsRemembered None = Unit {0}
IsRemembered (Some last) = IsOctetAnswer last.response

pub record AreRemembered (memory : Memory) : Type 0 where
  pub connection : IsRemembered memory.connection
  pub configuration : IsRemembered memory.configuration
  pub disconnection : IsRemembered memory.disconnection
  pub echo : IsRemembered memory.echo
  pub information : IsRemembered memory.information

abbrev pub IsSmallAsked : Option ℕ → Type 0
IsSmallAsked None = Unit {0}
IsSmallAsked (Some identifier) = identifier < 256

recalled : (kind : RequestKind) (memory : Memory) → AreRemembered memory → IsRemembered (remembered kind memory)
recalled kinds.Connection memory all = all.connection
recalled kinds.Configuration memory all = all.configuration
recalled kinds.Disconnection memory all = all.disconnection
recalled kinds.Echo memory all = all.echo
recalled kinds.Information memory all = all.information

recalls : (kind : RequestKind) (last : Remembered) (memory : Memory) → IsOctetAnswer last.response → AreRemembered memory → AreRemembered (with_remembered kind last memory)
recalls kinds.Connection last memory now r = record { connection = now; configuration = r.configuration; disconnection = r.disconnection; echo = r.echo; information = r.information }
recalls kinds.Configuration last memory now r = record { connection = r.connection; configuration = now; disconnection = r.disconnection; echo = r.echo; information = r.information }
recalls kinds.Disconnection last memory now r = record { connection = r.connection; configuration = r.configuration; disconnection = now; echo = r.echo; information = r.information }
recalls kinds.Echo last memory now r = record { connection = r.connection; configuration = r.configuration; disconnection = r.disconnection; echo = now; information = r.information }
recalls kinds.Information last memory now r = record { connection = r.connection; configuration = r.configuration; disconnection = r.disconnection; echo = r.echo; information = now }

-- what is heard is one command at most, in octets
abbrev pub IsOneHeard : List Read → Type 0
IsOneHeard list = AllByRecursion IsOctetRead list × (length list ≤ 1)

module _ (Leaves : Type 0) where
  -- the requests are small, and the answers octets; at most sixteen of these wait
  pub record AreSignals (v : Channels) : Type 0 where
    pub core : Fits Leaves v
    pub features : IsSmallAsked (asked_by v.features)
    pub answers : AllByRecursion IsOctetCommand (answers_of v.queue)
    pub few : length (answers_of v.queue) ≤ 16
    pub memory : AreRemembered v.memory

  lasting : (v w : Channels) → Lasts v w → Fits Leaves w → AreSignals v → AreSignals w
  lasting v w (features, memory, waiting) core so = record {
    core = core;
    features = subst IsSmallAsked (sym features) so.features;
    answers = subst (AllByRecursion IsOctetCommand) (sym waiting) so.answers;
    few = subst (λ (l : List Command). length l ≤ 16) (sym waiting) so.few;
    memory = subst AreRemembered (sym memory) so.memory;
  }

  either_so : (b : Bool) (x y : Channels) → AreSignals x → AreSignals y → AreSignals (cond b x y)
  either_so true x y one other = one
  either_so false x y one other = other

  pub told-signals : (events : List ChannelEvent) (v : Channels) → AreSignals v → AreSignals (record v { events = events })
  told-signals events v so = record { core = record { held = so.core.held; identifier = so.core.identifier }; features = so.features; answers = so.answers; few = so.few; memory = so.memory }

  pub new-signals : (events : List ChannelEvent) → AreSignals (record no_channels { events = events })
  new-signals events = record { core = record { held = tt; identifier = omega arith }; features = tt; answers = tt; few = omega arith; memory = record { connection = tt; configuration = tt; disconnection = tt; echo = tt; information = tt } }

  -- ---- a request of the peer

  room : (v : Channels) → has_room v ≡ true → length (answers_of v.queue) < 16
  room v is = let low = ltb-true (length (filter is_answer v.queue)) 16 is in let same = answers_count v.queue in omega (arith, low, same)

  said : (identifier : ℕ) (response : Option Content) (v : Channels) → can_say response v ≡ true → identifier < 256 → IsOctetAnswer response → AreSignals v → AreSignals (says identifier response v)
  said identifier None v may small octets so = so
  said identifier (Some content) v may small octets so =
      let command : Command = record { identifier = identifier; content = content } in
      let low = room v may in
      let count = one_more v.queue command in
      record { core = record { held = so.core.held; identifier = so.core.identifier }; features = so.features; answers = more_answers v.queue command so.answers (small, octets); few = omega (arith, low, count); memory = so.memory }

  again : (identifier : ℕ) (response : Option Content) (v : Channels) → identifier < 256 → IsOctetAnswer response → AreSignals v → AreSignals (hears_again identifier response v)
  again identifier response v small octets so = by (can_say response v) refl
    where
      by : (b : Bool) → can_say response v ≡ b → AreSignals (cond b (says identifier response v) v)
      by true may = said identifier response v may small octets so
      by false may = so

  anew : (kind : RequestKind) (identifier : ℕ) (response : Option Content) (more : Channels → Channels) (v : Channels) → identifier < 256 → IsOctetAnswer response → ((u : Channels) → AreSignals u → AreSignals (more u)) → AreSignals v → AreSignals (hears_new kind identifier response more v)
  anew kind identifier response more v small octets goes so = by (can_say response v) refl
    where
      last : Remembered
      last = record { identifier = identifier; response = response }

      u : Channels
      u = remembers kind identifier response v

      known : AreSignals u
      known = record { core = record { held = so.core.held; identifier = so.core.identifier }; features = so.features; answers = so.answers; few = so.few; memory = recalls kind last v.memory octets so.memory }

      same : (response : Option Content) → can_say response v ≡ true → can_say response u ≡ true
      same None may = refl
      same (Some content) may = may

      by : (b : Bool) → can_say response v ≡ b → AreSignals (cond b (more (says identifier response u)) v)
      by true may = goes (says identifier response u) (said identifier response u (same response may) small octets known)
      by false may = so

  of_kind : (last : Option Remembered) (kind : RequestKind) (identifier : ℕ) (response : Option Content) (more : Channels → Channels) (v : Channels) → identifier < 256 → IsRemembered last → IsOctetAnswer response → ((u : Channels) → AreSignals u → AreSignals (more u)) → AreSignals v
      → AreSignals (hears_kind last kind identifier response more v)
  of_kind None kind identifier response more v small old octets goes so = anew kind identifier response more v small octets goes so
  of_kind (Some last) kind identifier response more v small old octets goes so =
      either_so (eqb last.identifier identifier) (hears_again identifier last.response v) (hears_new kind identifier response more v) (again identifier last.response v small old so) (anew kind identifier response more v small octets goes so)

  asked_of : (kind : RequestKind) (identifier : ℕ) (response : Option Content) (more : Channels → Channels) (v : Channels) → identifier < 256 → IsOctetAnswer response → ((u : Channels) → AreSignals u → AreSignals (more u)) → AreSignals v → AreSignals (hears_request kind identifier response more v)
  asked_of kind identifier response more v small octets goes so = of_kind (remembered kind v.memory) kind identifier response more v small (recalled kind v.memory so.memory) octets goes so

  -- ---- what follows from it

  either_fits : (b : Bool) (x y : Channels) → Fits Leaves x → Fits Leaves y → Fits Leaves (cond b x y)
  either_fits b x y one other = either Leaves b x y one other

  verdict_of : (found : Option Held) (policy : Policy) (flags : ℕ) (octets : List ℕ) → AreSmallWishes policy → IsOctets octets → FitsFound Leaves found → FitsVerdict (verdict_on found policy flags octets)
  verdict_of None policy flags octets wished fits one = tt
  verdict_of (Some held) policy flags octets wished fits one = by held.stage one
    where
      by : (stage : Stage) → FitsStage Leaves stage → FitsVerdict (judged_stage stage (policy.wish held.psm) flags octets)
      by (Requested request) so = tt
      by (Connected peer setup) so = setup_verdict peer flags (policy.wish held.psm) setup octets (wished held.psm) fits so
      by (Leaving peer setup request) so = setup_verdict peer flags (policy.wish held.psm) setup octets (wished held.psm) fits so.1
      by (Closing peer request checked) so = tt
      by (Crossed peer request) so = tt

  verdict_so : (policy : Policy) (own flags : ℕ) (octets : List ℕ) (v : Channels) → AreSmallWishes policy → IsOctets octets → Fits Leaves v → FitsVerdict (verdict policy own flags octets v)
  verdict_so policy own flags octets v wished fits so = verdict_of (held_at own v) policy flags octets wished fits (fits-found Leaves (has_own own) v so)

  verdict_follows : (now : Verdict) (wish : Wish) (held : Held) (setup : Setup) (v : Channels) → IsSmallWish wish → FitsVerdict now → FitsStage Leaves held.stage → FitsSetup setup → Fits Leaves v → Fits Leaves (follows_verdict now wish held setup v)
  verdict_follows NoChannel wish held setup v wished now one so fits = fits
  verdict_follows (TooLate peer) wish held setup v wished now one so fits = fits
  verdict_follows (Unreadable peer) wish held setup v wished now one so fits = unread Leaves held setup v one so fits
  verdict_follows (Incomplete peer options) wish held setup v wished now one so fits = parted Leaves held setup options v one so now fits
  verdict_follows (Judged peer options answer) wish held setup v wished now one so fits = followed Leaves answer wish options held setup v wished one so fits

  setup_follows : (found : Option Setup) (policy : Policy) (held : Held) (flags : ℕ) (octets : List ℕ) (v : Channels) → AreSmallWishes policy → IsOctets octets → FitsStage Leaves held.stage → FitsSome Leaves found → Fits Leaves v → Fits Leaves (follows_setup found policy held flags octets v)
  setup_follows None policy held flags octets v wished fit one so fits = fits
  setup_follows (Some setup) policy held flags octets v wished fit one so fits =
      verdict_follows (verdict policy held.own flags octets v) (policy.wish held.psm) held setup v (wished held.psm) (verdict_so policy held.own flags octets v wished fit fits) one so fits

  configuration_follows : (found : Option Held) (policy : Policy) (flags : ℕ) (octets : List ℕ) (v : Channels) → AreSmallWishes policy → IsOctets octets → FitsFound Leaves found → Fits Leaves v → Fits Leaves (follows_configuration found policy flags octets v)
  configuration_follows None policy flags octets v wished fit one fits = fits
  configuration_follows (Some held) policy flags octets v wished fit one fits = setup_follows (setup_of held.stage) policy held flags octets v wished fit one (setup-fits Leaves held.stage one) fits

  disconnection_follows : (found : Option Held) (peer : ℕ) (v : Channels) → FitsFound Leaves found → Fits Leaves v → Fits Leaves (follows_disconnection found peer v)
  disconnection_follows None peer v one fits = fits
  disconnection_follows (Some held) peer v one fits = either_fits (is_peer peer held.stage) (peer_closes_at held.stage held v) v (peer_closed Leaves held.stage held v one one fits) fits

  follows_so : (policy : Policy) (content : Content) (v : Channels) → AreSmallWishes policy → IsOctets (rest_of content) → Fits Leaves v → Fits Leaves (follows policy content v)
  follows_so policy (reject reason rest) v wished octets fits = fits
  follows_so policy (connection_request psm source) v wished octets fits =
      either_fits (eqb (connection_result policy psm source v) 0) (with_channel psm (Connected source no_setup) v) v (made Leaves psm (Connected source no_setup) v (record { own = tt; parts = tt }) fits) fits
  follows_so policy (connection_response destination source answer status) v wished octets fits = fits
  follows_so policy (configuration_request destination flags options) v wished octets fits = configuration_follows (held_at destination v) policy flags options v wished octets (fits-found Leaves (has_own destination) v fits) fits
  follows_so policy (configuration_response source flags answer options) v wished octets fits = fits
  follows_so policy (disconnection_request destination source) v wished octets fits = disconnection_follows (held_at destination v) source v (fits-found Leaves (has_own destination) v fits) fits
  follows_so policy (disconnection_response destination source) v wished octets fits = fits
  follows_so policy (echo_request it) v wished octets fits = fits
  follows_so policy (echo_response it) v wished octets fits = fits
  follows_so policy (information_request kind) v wished octets fits = fits
  follows_so policy (information_response kind answer rest) v wished octets fits = fits

  -- ---- a command

  answer_so : (policy : Policy) (content : Content) (v : Channels) → AreSmallWishes policy → IsOctets (rest_of content) → FittedLow v → Fits Leaves v → IsOctetAnswer (answer_to policy content v)
  answer_so policy (reject reason rest) v wished octets low fits = tt
  answer_so policy (connection_request psm source) v wished octets low fits = IsOctets-nil
  answer_so policy (connection_response destination source answer status) v wished octets low fits = tt
  answer_so policy (configuration_request destination flags options) v wished octets low fits =
      configured (verdict policy destination flags options v) destination (verdict_so policy destination flags options v wished octets fits) (verdict-fits IsLowPsm policy destination flags options v low.core)
  answer_so policy (configuration_response source flags answer options) v wished octets low fits = tt
  answer_so policy (disconnection_request destination source) v wished octets low fits = disconnected_so (held_at destination v) destination source
  answer_so policy (disconnection_response destination source) v wished octets low fits = tt
  answer_so policy (echo_request it) v wished octets low fits = octets
  answer_so policy (echo_response it) v wished octets low fits = tt
  answer_so policy (information_request kind) v wished octets low fits = informed kind
  answer_so policy (information_response kind answer rest) v wished octets low fits = tt

  questioned : (policy : Policy) (kind : RequestKind) (identifier : ℕ) (content : Content) (v : Channels) → AreSmallWishes policy → identifier < 256 → IsOctets (rest_of content) → FittedLow v → AreSignals v
      → AreSignals (hears_request kind identifier (answer_to policy content v) (follows policy content) v)
  questioned policy kind identifier content v wished small octets low so =
      asked_of kind identifier (answer_to policy content v) (follows policy content) v small (answer_so policy content v wished octets low so.core)
      (λ u now. lasting u (follows policy content u) (follows-lasts policy content u) (follows_so policy content u wished octets now.core) now) so

  featured : (identifier : ℕ) (given : Option ℕ) (v : Channels) → AreSignals v → AreSignals (hears_features identifier given v)
  featured identifier given v so =
      either_so (has_identifier identifier v.features) (tells (Features given) (forgets errands.Features (record v { features = None }))) v (record {
        core = record { held = so.core.held; identifier = so.core.identifier };
        features = tt;
        answers = subst (AllByRecursion IsOctetCommand) (sym (forgotten errands.Features v.queue)) so.answers;
        few = subst (λ (l : List Command). length l ≤ 16) (sym (forgotten errands.Features v.queue)) so.few;
        memory = so.memory;
      }) so

  content_so : (policy : Policy) (identifier : ℕ) (content : Content) (v : Channels) → AreSmallWishes policy → identifier < 256 → IsOctets (rest_of content) → FittedLow v → AreSignals v → AreSignals (hears_content policy identifier content v)
  content_so policy identifier (reject reason rest) v wished small octets low so = featured identifier None v so
  content_so policy identifier (connection_request psm source) v wished small octets low so = questioned policy kinds.Connection identifier (connection_request psm source) v wished small octets low so
  content_so policy identifier (connection_response destination source answer status) v wished small octets low so =
      lasting v _ (grant-lasts v (held_at source v) policy identifier destination answer) (grant-fits Leaves (held_at source v) policy identifier destination answer v wished (fits-found Leaves (has_own source) v so.core) so.core) so
  content_so policy identifier (configuration_request destination flags options) v wished small octets low so = questioned policy kinds.Configuration identifier (configuration_request destination flags options) v wished small octets low so
  content_so policy identifier (configuration_response source flags answer options) v wished small octets low so =
      lasting v _ (response-lasts v (held_at source v) policy identifier answer options) (response-fits Leaves (held_at source v) policy identifier answer options v wished (fits-found Leaves (has_own source) v so.core) so.core) so
  content_so policy identifier (disconnection_request destination source) v wished small octets low so = questioned policy kinds.Disconnection identifier (disconnection_request destination source) v wished small octets low so
  content_so policy identifier (disconnection_response destination source) v wished small octets low so = lasting v _ (end-lasts v (held_at source v) destination) (end-fits Leaves (held_at source v) destination v so.core) so
  content_so policy identifier (echo_request it) v wished small octets low so = questioned policy kinds.Echo identifier (echo_request it) v wished small octets low so
  content_so policy identifier (echo_response it) v wished small octets low so = so
  content_so policy identifier (information_request kind) v wished small octets low so = questioned policy kinds.Information identifier (information_request kind) v wished small octets low so
  content_so policy identifier (information_response kind answer rest) v wished small octets low so = featured identifier (features_in kind answer rest) v so

  malformed : (kind : Option RequestKind) (identifier : ℕ) (v : Channels) → identifier < 256 → AreSignals v → AreSignals (hears_malformed kind identifier v)
  malformed None identifier v small so = so
  malformed (Some kind) identifier v small so = asked_of kind identifier (Some not_understood) (λ w. w) v small IsOctets-nil (λ u now. now) so

  unread_so : (code identifier : ℕ) (v : Channels) → identifier < 256 → AreSignals v → AreSignals (hears_unread code identifier v)
  unread_so code identifier v small so =
      either_so (eqb identifier 0) v _ so (either_so (is_response_code code) v _ so (either_so (is_kind (kind_of_code code)) (hears_malformed (kind_of_code code) identifier v) (hears_again identifier (Some not_understood) v)
      (malformed (kind_of_code code) identifier v small so) (again identifier (Some not_understood) v small IsOctets-nil so)))

  refused_so : (refusal : SignalRefusal) (v : Channels) → IsOctetRefusal refusal → AreSignals v → AreSignals (hears_refused refusal v)
  refused_so (ZeroIdentifier code identifier) v small so = so
  refused_so (BadLength code None) v small so = so
  refused_so (BadLength code (Some identifier)) v small so = unread_so code identifier v small so
  refused_so (UnknownCode code None) v small so = so
  refused_so (UnknownCode code (Some identifier)) v small so = unread_so code identifier v small so
  refused_so (AboveMtu code None) v small so = so
  refused_so (AboveMtu code (Some identifier)) v small so = either_so (eqb identifier 0) v (hears_again identifier (Some too_long) v) so (again identifier (Some too_long) v small (word-alone 672) so)

  command_so : (policy : Policy) (one : Read) (v : Channels) → AreSmallWishes policy → IsOctetRead one → FittedLow v → AreSignals v → AreSignals (hears_command policy one v)
  command_so policy (Ok command) v wished octets low so = content_so policy command.identifier command.content v wished octets.0 octets.1 low so
  command_so policy (Err refusal) v wished octets low so = refused_so refusal v octets so

  commands_so : (policy : Policy) (list : List Read) (v : Channels) → AreSmallWishes policy → IsOneHeard list → FittedLow v → AreSignals v → AreSignals (hears_commands policy list v)
  commands_so policy [] v wished heard low so = so
  commands_so policy (one ∷ []) v wished heard low so = command_so policy one v wished heard.0.0 low so
  commands_so policy (one ∷ two ∷ list) v wished heard low so = absurd (let few = heard.1 in omega (arith, few))

  pub comes-signals : (policy : Policy) (pdu : List ℕ) (v : Channels) → AreSmallWishes policy → (channel_of pdu ≡ 0x0001 → IsOctets pdu × (length (answers (drop 4 pdu)) ≤ 1)) → FittedLow v → AreSignals v → AreSignals (hears policy (channel_of pdu) pdu v)
  comes-signals policy pdu v wished one low so = by (eqb (channel_of pdu) 0x0001) refl
    where
      by : (signals : Bool) → eqb (channel_of pdu) 0x0001 ≡ signals → AreSignals (cond signals (hears_commands policy (answers (drop 4 pdu)) v) (takes (channel_of pdu) pdu v))
      by true is = let both = one (eqb-true (channel_of pdu) 0x0001 is) in commands_so policy (answers (drop 4 pdu)) v wished (heard_octets (drop 4 pdu) (octets_behind 4 pdu both.0), both.1) low so
      by false is = lasting v (takes (channel_of pdu) pdu v) (takes-lasts (channel_of pdu) pdu v) (takes-fits Leaves (channel_of pdu) pdu v so.core) so

  -- ---- what it does by itself

  pub connects-signals : (psm : ℕ) (v : Channels) → AreSignals v → AreSignals (connected psm v)
  connects-signals psm v so = lasting v (connected psm v) (connects-lasts psm v) (connects-fits Leaves psm v so.core) so

  pub asks-signals : (v : Channels) → AreSignals v → AreSignals (asks_features v)
  asks-signals v so =
      either_so (is_some v.features) v (asks errands.Features (record v { features = Some (new_request v) })) so (record {
        core = record { held = so.core.held; identifier = next-small v.identifier so.core.identifier };
        features = so.core.identifier;
        answers = subst (AllByRecursion IsOctetCommand) (sym (asked-with errands.Features v.queue)) so.answers;
        few = subst (λ (l : List Command). length l ≤ 16) (sym (asked-with errands.Features v.queue)) so.few;
        memory = so.memory;
      })

  pub disconnects-signals : (own : ℕ) (v : Channels) → Leaves → AreSignals v → AreSignals (disconnected own v)
  disconnects-signals own v may so = lasting v (disconnected own v) (disconnects-last own v) (disconnects-fits Leaves own v may so.core) so

  pub sends-signals : (own : ℕ) (sdu : List ℕ) (v : Channels) → AreSignals v → AreSignals (sends own sdu v)
  sends-signals own sdu v so = lasting v (sends own sdu v) (sends-last own sdu v) (sends-fits Leaves own sdu v so.core) so

  -- ---- the timer

  channel_timed : (tries own : ℕ) (v : Channels) → AreSignals v → AreSignals (times_channel tries own v)
  channel_timed tries own v so =
      let after : Channels = times_held (held_at own v) tries v in
      let now : AreSignals after = lasting v after (times-last tries own v) (times-fits Leaves tries own v so.core) so in
      lasting after (times_end (held_at own after) tries after) (ends-last tries own after) (ends-fit Leaves tries own after now.core) now

  channels_timed : (tries : ℕ) (owns : List ℕ) (v : Channels) → AreSignals v → AreSignals (times_channels tries owns v)
  channels_timed tries [] v so = so
  channels_timed tries (own ∷ owns) v so = channels_timed tries owns (times_channel tries own v) (channel_timed tries own v so)

  features_timed : (features : Option Request) (tries : ℕ) (v : Channels) → AreSignals v → AreSignals (times_features features tries v)
  features_timed None tries v so = so
  features_timed (Some request) tries v so = by (is_due errands.Features v) (nat_le tries request.given)
    where
      by : (due most : Bool) → AreSignals (fires (cond due StillDue (cond most Spent OnceMore)) errands.Features loses_features v)
      by true most = so
      by false true = record { core = record { held = so.core.held; identifier = so.core.identifier }; features = tt; answers = so.answers; few = so.few; memory = so.memory }
      by false false = record {
        core = record { held = so.core.held; identifier = so.core.identifier };
        features = so.features;
        answers = subst (AllByRecursion IsOctetCommand) (sym (answers-asked v.queue errands.Features)) so.answers;
        few = subst (λ (l : List Command). length l ≤ 16) (sym (answers-asked v.queue errands.Features)) so.few;
        memory = so.memory;
      }

  pub timed-signals : (policy : Policy) (v : Channels) → AreSignals v → AreSignals (timed_out policy v)
  timed-signals policy v so =
      let owns = map (λ (held : Held). held.own) v.held in
      let after : Channels = times_channels policy.tries owns v in
      features_timed after.features policy.tries after (channels_timed policy.tries owns v so)

  -- ---- the next PDU

  held_same : (v : Channels) (found : Option Held) → (held_given found v).queue ≡ v.queue
  held_same v None = refl
  held_same v (Some held) = by (setup_of held.stage)
    where
      by : (setup : Option Setup) → (carrier_spent setup held v).queue ≡ v.queue
      by None = refl
      by (Some setup) = refl

  stage_same : (v : Channels) (f : Stage → Stage) (found : Option Held) → (stage_given f found v).queue ≡ v.queue
  stage_same v f None = refl
  stage_same v f (Some held) = refl

  counted_same : (v : Channels) (errand : Errand) → (counted errand v).queue ≡ v.queue
  counted_same v (errands.Connection own) = stage_same v _ (held_at own v)
  counted_same v (errands.Configuration own) = stage_same v _ (held_at own v)
  counted_same v (errands.Disconnection own) = stage_same v _ (held_at own v)
  counted_same v errands.Features = refl

  abbrev AreOctetAnswers : List Command → Type 0
  AreOctetAnswers list = AllByRecursion IsOctetCommand list × (length list ≤ 16)

  queue_less : (queue : List Queued) (v : Channels) → v.queue ≡ queue → AreOctetAnswers (answers_of queue) → AreOctetAnswers (answers_of (queue_given queue v).queue)
  queue_less [] v is all = subst (λ (q : List Queued). AreOctetAnswers (answers_of q)) (sym (held_same v (find gives v.held) ∙ is)) all
  queue_less (Answer command ∷ behind) v is all = (all.0.1, let few = all.1 in omega (arith, few))
  queue_less (Ask errand ∷ behind) v is all = subst (λ (q : List Queued). AreOctetAnswers (answers_of q)) (sym (counted_same (record v { queue = behind }) errand)) all

  pub gives-signals : (v : Channels) → AreSignals v → AreSignals (after_given v)
  gives-signals v so =
      let (features, memory) = gives-last v in
      let both = queue_less v.queue v refl (so.answers, so.few) in
      record { core = gives-fits Leaves v so.core; features = subst IsSmallAsked (sym features) so.features; answers = both.0; few = both.1; memory = subst AreRemembered (sym memory) so.memory }
