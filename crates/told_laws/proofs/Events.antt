-- What a host may be told stays so, whatever happens to its channels but for the timer.
use Rattle.std.proofs.Common.{◌≡◌, ℕ, List, [], ◌∷◌, ◌++◌, drop, Bool, true, false, cond, eqb, Option, Some, None, Result, Ok, Err, refl, sym, ap, subst, ◌∙◌, inl, inr}
use Rattle.std.specs.Prelude.{find, is_some, nat_le, ◌||◌}
use Rattle.std.specs.List.{AllByRecursion}
use Rattle.std.proofs.lemmas.Bool.{eqb-true}
use Rattle.channel_laws.specs.acl_fragments.specs.Pieces.{channel_of}
use Rattle.channel_laws.specs.capture.specs.declared.flow.Flow.TheVariants.{Into}
use Rattle.channel_laws.specs.ertm_model.specs.declared.reason.ErtmReason.{ErtmReason}
use Rattle.channel_laws.specs.ertm_model.specs.declared.reason.ErtmReason.TheVariants as machines
use Rattle.channel_laws.specs.ertm_model.specs.Value.{Ertm}
use Rattle.channel_laws.specs.l2cap_config.specs.declared.agreement.ConfigAnswer.TheVariants.{Accept, Unacceptable, Unknown}
use Rattle.channel_laws.specs.l2cap_config.specs.declared.agreement.Settled.{Settled}
use Rattle.channel_laws.specs.l2cap_config.specs.declared.agreement.Settled.TheVariants.{Accepted, Again, Wait, Never}
use Rattle.channel_laws.specs.l2cap_config.specs.declared.options.Options.{Options}
use Rattle.channel_laws.specs.l2cap_config.specs.declared.options.ConfigRefusal.{ConfigRefusal}
use Rattle.channel_laws.specs.l2cap_config.specs.declared.wish.Wish.{Wish}
use Rattle.channel_laws.specs.l2cap_config.specs.Agreement.{settled}
use Rattle.channel_laws.specs.l2cap_config.specs.Reading.{options_read}
use Rattle.channel_laws.specs.l2cap_signal.specs.Commands.{Content, Command, reject, connection_request, connection_response, configuration_request, configuration_response, disconnection_request, disconnection_response, echo_request, echo_response, information_request, information_response}
use Rattle.channel_laws.specs.l2cap_signal.specs.Reading.{Answer as Read, answers}
use Rattle.channel_laws.specs.link_talk.specs.Sayings.{Saying, Carried}
use Rattle.channel_laws.specs.link_talk.specs.Sayings as sayings
use Rattle.channel_laws.specs.channel_model.specs.declared.errand.Errand.{Errand}
use Rattle.channel_laws.specs.channel_model.specs.declared.errand.Errand.TheVariants as errands
use Rattle.channel_laws.specs.channel_model.specs.declared.event.ChannelEvent.{ChannelEvent}
use Rattle.channel_laws.specs.channel_model.specs.declared.event.ChannelEvent.TheVariants.{Opened, Closed, Features, FeaturesLost, DisconnectLost}
use Rattle.channel_laws.specs.channel_model.specs.declared.event.CloseReason.{CloseReason}
use Rattle.channel_laws.specs.channel_model.specs.declared.event.CloseReason.TheVariants.{PeerClosed, Refused, NoAgreement, RetryLimit, LinkDown, OwnClosed}
use Rattle.channel_laws.specs.channel_model.specs.declared.event.CloseReason.TheVariants as reasons
use Rattle.channel_laws.specs.channel_model.specs.declared.request_kind.RequestKind.{RequestKind}
use Rattle.channel_laws.specs.channel_model.specs.declared.request_kind.RequestKind.TheVariants as kinds
use Rattle.channel_laws.specs.channel_model.specs.Answers.{connection_result, disconnection_by, disconnection_answer, answer_to}
use Rattle.channel_laws.specs.channel_model.specs.Asking.{new_request, asks, asks_options}
use Rattle.channel_laws.specs.channel_model.specs.Calls.{can_connect, connected, asks_features, disconnected_at, disconnected_held, disconnected, sends_on, sends_held, sends, setup_on}
use Rattle.channel_laws.specs.channel_model.specs.Carrying.{machine_heard, read_by, reason_of, is_taken_with, carries, opens_with, settles_machine, takes_with, takes_on, takes_held, takes}
use Rattle.channel_laws.specs.channel_model.specs.Changing.{held_at, has_room, is_leaving, is_peer, setup_of, with_setup, to_setup, forgets, tells}
use Rattle.channel_laws.specs.channel_model.specs.Closing.{closes, closes_at, peer_closes_at, ends, ends_at}
use Rattle.channel_laws.specs.channel_model.specs.Configuring.{Verdict, NoChannel, TooLate, Unreadable, Incomplete, Judged, verdict, accepted_setup, accepts_with, refused_setup, refuses, follows_verdict, opens_if, granted_setup, grants}
use Rattle.channel_laws.specs.channel_model.specs.Following.{with_channel, follows_setup, follows_configuration, follows_disconnection, follows, remembers, says, can_say, hears_new, hears_again, hears_kind}
use Rattle.channel_laws.specs.channel_model.specs.Giving.{gives, stage_given, counted, carrier_spent, held_given, queue_given, after_given}
use Rattle.channel_laws.specs.channel_model.specs.Hearing.{hears_content, hears_commands}
use Rattle.channel_laws.specs.channel_model.specs.Policies.{Policy}
use Rattle.channel_laws.specs.channel_model.specs.Responses.{is_fresh_endpoint, connects, hears_connected, hears_grant_at, hears_grant, renewed_setup, renews, hears_settled, hears_options, is_asked, hears_response_on, hears_response, hears_end, has_identifier, hears_features, features_in}
use Rattle.channel_laws.specs.channel_model.specs.Value.{Queued, Answer, Ask, Own, Unasked, Asking, Granted, Carrier, Plain, Retransmitting, Setup, no_setup, Stage, Requested, Connected, Leaving, Closing, Crossed, Held, Remembered, Channels}
use Rattle.channel_laws.specs.channel_model.proofs.Lookups.{own_of, eqb-same, found-has}
use Rattle.channel_laws.specs.OwnTalk.{spoken, command_with, response_by, command_if, reply_to, exchanged, said_with_all, asked_between}
use Rattle.channel_laws.specs.Runs.{Occurrence, Comes, Connects, AsksFeatures, Disconnects, Sends, Gives, Fires, Tells, said_in, value_after}
use Rattle.channel_laws.specs.Signals.{StandsIn}
use Rattle.channel_laws.proofs.Saying.{stands-left}
use Rattle.staying_laws.specs.forgoing_laws.specs.disconnection_laws.specs.Ended.{HasAnsweredEnd}
use Rattle.told_laws.specs.Told.{IsNoLimit}

-- a host answered no request for the end of a channel
abbrev pub AnswersNoEnd : List Saying → Type 0
AnswersNoEnd said = (identifier own peer : ℕ) → HasAnsweredEnd identifier own peer said → ⊥

pub all_and : (P : ChannelEvent → Type 0) (events : List ChannelEvent) (event : ChannelEvent) → AllByRecursion P events → P event → AllByRecursion P (events ++ event ∷ [])
all_and P [] event all so = (so, tt)
all_and P (first ∷ events) event all so = (all.0, all_and P events event all.1 so)

abbrev pub Ends : (These : ℕ → Type 0) → (Guarded : Type 0) → (own : ℕ) → CloseReason → Type 0
Ends These Guarded own PeerClosed = Guarded → ⊥
Ends These Guarded own (Refused result) = Unit {0}
Ends These Guarded own NoAgreement = Unit {0}
Ends These Guarded own RetryLimit = These own → ⊥
Ends These Guarded own (reasons.Ertm reason) = IsNoLimit reason
Ends These Guarded own LinkDown = Unit {0}
Ends These Guarded own OwnClosed = Unit {0}

-- What is told is mild, for these channels: where it is guarded, the peer closes none and no question for features is lost.
abbrev pub Mild : (These : ℕ → Type 0) → (Guarded : Type 0) → ChannelEvent → Type 0
Mild These Guarded (Opened own psm) = Unit {0}
Mild These Guarded (Closed own psm reason) = Ends These Guarded own reason
Mild These Guarded (Features features) = Unit {0}
Mild These Guarded FeaturesLost = Guarded → ⊥
Mild These Guarded (DisconnectLost own) = ⊥

module _ (These : ℕ → Type 0) (Guarded : Type 0) where
  abbrev pub AllMild : Channels → Type 0
  AllMild v = AllByRecursion (Mild These Guarded) v.events

  pub either : (b : Bool) (v w : Channels) → AllMild v → AllMild w → AllMild (cond b v w)
  either true v w one other = one
  either false v w one other = other

  pub tells_mildly : (event : ChannelEvent) (v : Channels) → AllMild v → Mild These Guarded event → AllMild (tells event v)
  tells_mildly event v all so = all_and (Mild These Guarded) v.events event all so

  -- ---- a channel closes

  pub closed_so : (v : Channels) (held : Held) (stage : Stage) (reason : CloseReason) → Ends These Guarded held.own reason → AllMild v → AllMild (closes_at stage reason held v)
  closed_so v held (Requested request) reason so all = all_and (Mild These Guarded) v.events _ all so
  closed_so v held (Connected peer setup) reason so all = all_and (Mild These Guarded) v.events _ all so
  closed_so v held (Leaving peer setup request) reason so all = all_and (Mild These Guarded) v.events _ all so
  closed_so v held (Closing peer request checked) reason so all = all
  closed_so v held (Crossed peer request) reason so all = all

  pub ended_so : (v : Channels) (held : Held) (stage : Stage) (reason : CloseReason) → Ends These Guarded held.own reason → AllMild v → AllMild (ends_at stage reason held v)
  ended_so v held (Requested request) reason so all = all
  ended_so v held (Connected peer setup) reason so all = all
  ended_so v held (Leaving peer setup request) reason so all = all_and (Mild These Guarded) v.events _ all so
  ended_so v held (Closing peer request checked) reason so all = all
  ended_so v held (Crossed peer request) reason so all = all

  pub machine_mild : (own : ℕ) (reason : ErtmReason) → (These own → ⊥) → Ends These Guarded own (reason_of reason)
  machine_mild own machines.BadReqSeq apart = tt
  machine_mild own machines.Srej apart = tt
  machine_mild own machines.BadSegment apart = tt
  machine_mild own machines.RetryLimit apart = apart
  machine_mild own machines.TooLongSdu apart = tt
  machine_mild own machines.BadFrame apart = tt

  -- where the machine of one of these does not
  pub settled_so : (v : Channels) (held : Held) (setup : Setup) (machine : Ertm) → (These held.own → machine.closed ≡ None) → AllMild v → AllMild (settles_machine machine.closed machine held setup v)
  settled_so v held setup machine stands all = by machine.closed refl
    where
      by : (shut : Option ErtmReason) → machine.closed ≡ shut → AllMild (settles_machine shut machine held setup v)
      by None is = all
      by (Some reason) is = closed_so v held held.stage (reason_of reason) (machine_mild held.own reason (λ same. let never : None ≡ Some reason = sym (stands same) ∙ is in cc)) all

  -- ---- the peer asks for options

  accepted : (v : Channels) (own : Own) (wish : Wish) (held : Held) (setup : Setup) → AllMild v → AllMild (accepts_with own wish held setup v)
  accepted v Unasked wish held setup all = all
  accepted v (Asking request options) wish held setup all = all
  accepted v Granted wish held setup all = all_and (Mild These Guarded) v.events _ all tt

  refused : (v : Channels) (held : Held) (setup : Setup) → AllMild v → AllMild (refuses held setup v)
  refused v held setup all = either (nat_le 3 setup.refused) (closes NoAgreement (with_setup held setup) (to_setup held setup v)) (to_setup held setup v) (closed_so (to_setup held setup v) (with_setup held setup) (with_setup held setup).stage NoAgreement tt all) all

  judged : (v : Channels) (now : Verdict) (wish : Wish) (held : Held) (setup : Setup) → AllMild v → AllMild (follows_verdict now wish held setup v)
  judged v NoChannel wish held setup all = all
  judged v (TooLate peer) wish held setup all = all
  judged v (Unreadable peer) wish held setup all = all
  judged v (Incomplete peer options) wish held setup all = all
  judged v (Judged peer options (Accept given)) wish held setup all = accepted v setup.own wish held (accepted_setup wish options setup) all
  judged v (Judged peer options (Unacceptable refusal given)) wish held setup all = refused v held (refused_setup setup) all
  judged v (Judged peer options Unknown) wish held setup all = all

  configured : (policy : Policy) (own flags : ℕ) (options : List ℕ) (v : Channels) → AllMild v → AllMild (follows_configuration (held_at own v) policy flags options v)
  configured policy own flags options v all = by (held_at own v)
    where
      on : (held : Held) (setup : Option Setup) → AllMild (follows_setup setup policy held flags options v)
      on held None = all
      on held (Some setup) = judged v (verdict policy held.own flags options v) (policy.wish held.psm) held setup all

      by : (held : Option Held) → AllMild (follows_configuration held policy flags options v)
      by None = all
      by (Some held) = on held (setup_of held.stage)

  -- ---- any request of the peer

  says_so : (identifier : ℕ) (response : Option Content) (v : Channels) → AllMild v → AllMild (says identifier response v)
  says_so identifier None v all = all
  says_so identifier (Some content) v all = all

  asked_again : (identifier : ℕ) (response : Option Content) (v : Channels) → AllMild v → AllMild (hears_again identifier response v)
  asked_again identifier response v all = either (can_say response v) (says identifier response v) v (says_so identifier response v all) all

  asked_new : (kind : RequestKind) (identifier : ℕ) (response : Option Content) (more : Channels → Channels) (v : Channels) → ((u : Channels) → AllMild u → AllMild (more u)) → AllMild v → AllMild (hears_new kind identifier response more v)
  asked_new kind identifier response more v keeps all =
      let u : Channels = says identifier response (remembers kind identifier response v) in
      either (can_say response v) (more u) v (keeps u (says_so identifier response (remembers kind identifier response v) all)) all

  asked : (last : Option Remembered) (kind : RequestKind) (identifier : ℕ) (response : Option Content) (more : Channels → Channels) (v : Channels) → ((u : Channels) → AllMild u → AllMild (more u)) → AllMild v
      → AllMild (hears_kind last kind identifier response more v)
  asked None kind identifier response more v keeps all = asked_new kind identifier response more v keeps all
  asked (Some last) kind identifier response more v keeps all =
      either (eqb last.identifier identifier) (hears_again identifier last.response v) (hears_new kind identifier response more v) (asked_again identifier last.response v all) (asked_new kind identifier response more v keeps all)

  -- ---- for the end of a channel, which is answered where it ends one

  same_answer : (own peer endpoint : ℕ) → eqb peer endpoint ≡ true → cond (eqb endpoint peer) (Some (disconnection_response own peer)) None ≡ Some (disconnection_response own peer)
  same_answer own peer endpoint is = ap (λ b. cond b (Some (disconnection_response own peer)) None) (ap (λ n. eqb n peer) (sym (eqb-true peer endpoint is)) ∙ eqb-same peer)

  left_by_peer : (own peer : ℕ) (v : Channels) (held : Held) (stage : Stage) → (Guarded → disconnection_by stage own peer ≡ Some (disconnection_response own peer) → ⊥) → is_peer peer stage ≡ true → AllMild v → AllMild (peer_closes_at stage held v)
  left_by_peer own peer v held (Requested request) none is all = all
  left_by_peer own peer v held (Connected endpoint setup) none is all = all_and (Mild These Guarded) v.events _ all (λ guarded. none guarded (same_answer own peer endpoint is))
  left_by_peer own peer v held (Leaving endpoint setup request) none is all = all_and (Mild These Guarded) v.events _ all (λ guarded. none guarded (same_answer own peer endpoint is))
  left_by_peer own peer v held (Closing endpoint request checked) none is all = all
  left_by_peer own peer v held (Crossed endpoint request) none is all = all

  parted : (own peer : ℕ) (found : Option Held) (v : Channels) → (Guarded → disconnection_answer found own peer ≡ Some (disconnection_response own peer) → ⊥) → AllMild v → AllMild (follows_disconnection found peer v)
  parted own peer None v none all = all
  parted own peer (Some held) v none all = by (is_peer peer held.stage) refl
    where
      by : (here : Bool) → is_peer peer held.stage ≡ here → AllMild (cond here (peer_closes_at held.stage held v) v)
      by true is = left_by_peer own peer v held held.stage none is all
      by false is = all

  end_new : (policy : Policy) (one : Read) (identifier own peer : ℕ) (v : Channels) → (let answer : Option Content = answer_to policy (disconnection_request own peer) v in
      (Guarded → AnswersNoEnd (exchanged one (command_if identifier answer) v)) → AllMild v → AllMild (hears_new kinds.Disconnection identifier answer (follows policy (disconnection_request own peer)) v))
  end_new policy one identifier own peer v none all = by (disconnection_answer (held_at own v) own peer) refl
    where
      by : (answer : Option Content) → disconnection_answer (held_at own v) own peer ≡ answer → AllMild (hears_new kinds.Disconnection identifier (disconnection_answer (held_at own v) own peer) (follows policy (disconnection_request own peer)) v)
      by answer is = room (can_say (disconnection_answer (held_at own v) own peer) v) refl
        where
          u : Channels
          u = says identifier (disconnection_answer (held_at own v) own peer) (remembers kinds.Disconnection identifier (disconnection_answer (held_at own v) own peer) v)

          mild_u : AllMild u
          mild_u = says_so identifier (disconnection_answer (held_at own v) own peer) (remembers kinds.Disconnection identifier (disconnection_answer (held_at own v) own peer) v) all

          same_held : (response : Option Content) → held_at own (says identifier response (remembers kinds.Disconnection identifier (disconnection_answer (held_at own v) own peer) v)) ≡ held_at own v
          same_held None = refl
          same_held (Some content) = refl

          unsaid : can_say (disconnection_answer (held_at own v) own peer) v ≡ true → Guarded → disconnection_answer (held_at own v) own peer ≡ Some (disconnection_response own peer) → ⊥
          unsaid can guarded now = none guarded identifier own peer (subst (λ (l : List Saying). StandsIn (spoken (command_with identifier (disconnection_response own peer))) l) (sym said) (inr (inl refl)))
            where
              answered : Option Content
              answered = Some (disconnection_response own peer)

              room_is : has_room v ≡ true
              room_is = sym (ap (λ (r : Option Content). can_say r v) now) ∙ can

              said : exchanged one (command_if identifier (disconnection_answer (held_at own v) own peer)) v ≡ sayings.Command Into one ∷ spoken (command_with identifier (disconnection_response own peer)) ∷ []
              said = ap (λ (r : Option Content). exchanged one (command_if identifier r) v) now ∙ ap (λ b. cond b (sayings.Command Into one ∷ spoken (command_with identifier (disconnection_response own peer)) ∷ []) []) room_is

          room : (can : Bool) → can_say (disconnection_answer (held_at own v) own peer) v ≡ can → AllMild (cond can (follows_disconnection (held_at own u) peer u) v)
          room true can = subst (λ (f : Option Held). AllMild (follows_disconnection f peer u)) (sym (same_held (disconnection_answer (held_at own v) own peer))) (parted own peer (held_at own v) u (unsaid can) mild_u)
          room false can = all

  end_asked : (policy : Policy) (one : Read) (last : Option Remembered) (identifier own peer : ℕ) (v : Channels) → (let answer : Option Content = answer_to policy (disconnection_request own peer) v in
      (Guarded → AnswersNoEnd (exchanged one (command_if identifier (response_by last identifier answer)) v)) → AllMild v → AllMild (hears_kind last kinds.Disconnection identifier answer (follows policy (disconnection_request own peer)) v))
  end_asked policy one None identifier own peer v none all = end_new policy one identifier own peer v none all
  end_asked policy one (Some last) identifier own peer v none all = by (eqb last.identifier identifier) none
    where
      answer : Option Content
      answer = answer_to policy (disconnection_request own peer) v

      by : (same : Bool) → (Guarded → AnswersNoEnd (exchanged one (command_if identifier (cond same last.response answer)) v))
          → AllMild (cond same (hears_again identifier last.response v) (hears_new kinds.Disconnection identifier answer (follows policy (disconnection_request own peer)) v))
      by true so = asked_again identifier last.response v all
      by false so = end_new policy one identifier own peer v so all

  -- ---- what the peer responds

  granted : (v : Channels) (held : Held) (setup : Setup) → AllMild v → AllMild (grants held setup v)
  granted v held setup all = by (is_some setup.carrier)
    where
      by : (b : Bool) → AllMild (opens_if b held (to_setup held (granted_setup setup) (forgets (errands.Configuration held.own) v)))
      by true = all_and (Mild These Guarded) v.events _ all tt
      by false = all

  opened : (v : Channels) (policy : Policy) (endpoint result : ℕ) (held : Held) → AllMild v → AllMild (hears_connected policy endpoint result held v)
  opened v policy endpoint result held all =
      let made : Channels = connects (policy.wish held.psm) endpoint held v in
      let refused_by : Channels = closes (Refused result) held v in
      either (eqb result 0) (cond (is_fresh_endpoint endpoint v) made v) (cond (eqb result 1) v refused_by) (either (is_fresh_endpoint endpoint v) made v all all)
      (either (eqb result 1) v refused_by all (closed_so v held held.stage (Refused result) tt all))

  grant_heard : (v : Channels) (policy : Policy) (own identifier endpoint result : ℕ) → AllMild v → AllMild (hears_grant (held_at own v) policy identifier endpoint result v)
  grant_heard v policy own identifier endpoint result all = by (held_at own v)
    where
      at : (held : Held) (stage : Stage) → AllMild (hears_grant_at stage policy identifier endpoint result held v)
      at held (Requested request) = either (eqb request.identifier identifier) (hears_connected policy endpoint result held v) v (opened v policy endpoint result held all) all
      at held (Connected peer setup) = all
      at held (Leaving peer setup request) = all
      at held (Closing peer request checked) = all
      at held (Crossed peer request) = all

      by : (held : Option Held) → AllMild (hears_grant held policy identifier endpoint result v)
      by None = all
      by (Some held) = at held held.stage

  renewed : (v : Channels) (options : Options) (held : Held) (setup : Setup) → AllMild v → AllMild (renews options held setup v)
  renewed v options held setup all =
      either (is_leaving held.stage || nat_le 3 setup.renewed) (closes NoAgreement (with_setup held setup) (to_setup held setup v)) (asks_options held setup options v)
      (closed_so (to_setup held setup v) (with_setup held setup) (with_setup held setup).stage NoAgreement tt all) all

  response_heard : (v : Channels) (policy : Policy) (own identifier result : ℕ) (octets : List ℕ) → AllMild v → AllMild (hears_response (held_at own v) policy identifier result octets v)
  response_heard v policy own identifier result octets all = by (held_at own v)
    where
      so : (held : Held) (setup : Setup) (now : Settled) → AllMild (hears_settled now held setup v)
      so held setup Accepted = granted v held setup all
      so held setup (Again options) = renewed v options held (renewed_setup setup) all
      so held setup Wait = all
      so held setup Never = closed_so v held held.stage NoAgreement tt all

      read : (held : Held) (setup : Setup) (options : Result Options ConfigRefusal) → AllMild (hears_options options policy result held setup v)
      read held setup (Ok options) = so held setup (settled (policy.wish held.psm) result options)
      read held setup (Err refusal) = all

      on : (held : Held) (setup : Option Setup) → AllMild (hears_response_on setup policy identifier result octets held v)
      on held None = all
      on held (Some setup) = either (is_asked identifier setup.own) (hears_options (options_read octets) policy result held setup v) v (read held setup (options_read octets)) all

      by : (held : Option Held) → AllMild (hears_response held policy identifier result octets v)
      by None = all
      by (Some held) = on held (setup_of held.stage)

  end_heard : (v : Channels) (own peer : ℕ) → AllMild v → AllMild (hears_end (held_at own v) peer v)
  end_heard v own peer all = by (held_at own v)
    where
      by : (held : Option Held) → AllMild (hears_end held peer v)
      by None = all
      by (Some held) = either (is_peer peer held.stage) (ends OwnClosed held v) v (ended_so v held held.stage OwnClosed tt all) all

  features_heard : (identifier : ℕ) (given : Option ℕ) (v : Channels) → AllMild v → AllMild (hears_features identifier given v)
  features_heard identifier given v all =
      either (has_identifier identifier v.features) (tells (Features given) (forgets errands.Features (record v { features = None }))) v (all_and (Mild These Guarded) v.events _ all tt) all

  -- ---- a command

  connected_by : (psm source result : ℕ) (u : Channels) → AllMild u → AllMild (cond (eqb result 0) (with_channel psm (Connected source no_setup) u) u)
  connected_by psm source result u all = either (eqb result 0) (with_channel psm (Connected source no_setup) u) u all all

  pub command-mild : (policy : Policy) (identifier : ℕ) (content : Content) (v : Channels) → (Guarded → AnswersNoEnd (exchanged (Ok (command_with identifier content)) (reply_to policy (Ok (command_with identifier content)) v) v)) → AllMild v → AllMild (hears_content policy identifier content v)
  command-mild policy identifier (reject reason rest) v none all = features_heard identifier None v all
  command-mild policy identifier (connection_request psm source) v none all =
      asked v.memory.connection kinds.Connection identifier _ (follows policy (connection_request psm source)) v (λ u mild. connected_by psm source (connection_result policy psm source u) u mild) all
  command-mild policy identifier (connection_response destination source answer status) v none all = grant_heard v policy source identifier destination answer all
  command-mild policy identifier (configuration_request destination flags options) v none all =
      asked v.memory.configuration kinds.Configuration identifier _ (follows policy (configuration_request destination flags options)) v (λ u mild. configured policy destination flags options u mild) all
  command-mild policy identifier (configuration_response source flags answer options) v none all = response_heard v policy source identifier answer options all
  command-mild policy identifier (disconnection_request destination source) v none all =
      end_asked policy (Ok (command_with identifier (disconnection_request destination source))) v.memory.disconnection identifier destination source v none all
  command-mild policy identifier (disconnection_response destination source) v none all = end_heard v source destination all
  command-mild policy identifier (echo_request octets) v none all = asked v.memory.echo kinds.Echo identifier _ (follows policy (echo_request octets)) v (λ u mild. mild) all
  command-mild policy identifier (echo_response octets) v none all = all
  command-mild policy identifier (information_request kind) v none all = asked v.memory.information kinds.Information identifier _ (follows policy (information_request kind)) v (λ u mild. mild) all
  command-mild policy identifier (information_response kind answer rest) v none all = features_heard identifier (features_in kind answer rest) v all

  -- ---- a PDU on a channel

  carried : (v : Channels) (carrier : Carrier) (pdu : List ℕ) (held : Held) (setup : Setup) → (These held.own → (m : Ertm) → carrier ≡ Retransmitting m → (machine_heard (read_by m pdu) m).closed ≡ None) → AllMild v → AllMild (carries carrier pdu held setup v)
  carried v (Plain agreed waiting) pdu held setup stands all = all
  carried v (Retransmitting m) pdu held setup stands all = settled_so v held setup (machine_heard (read_by m pdu) m) (λ same. stands same m refl) all

  opened_with : (v : Channels) (own : Own) (held : Held) (setup : Setup) → AllMild v → AllMild (opens_with own held setup v)
  opened_with v Unasked held setup all = all
  opened_with v (Asking request options) held setup all = granted v held setup all
  opened_with v Granted held setup all = all

  -- it does not close the machine of one of these
  abbrev pub Withstands : List ℕ → Channels → Type 0
  Withstands pdu v = These (channel_of pdu) → (setup : Setup) (m : Ertm) → setup_on (held_at (channel_of pdu) v) ≡ Some setup → setup.carrier ≡ Some (Retransmitting m) → is_taken_with setup.own (Retransmitting m) pdu ≡ true → (machine_heard (read_by m pdu) m).closed ≡ None

  taken_mild : (pdu : List ℕ) (v : Channels) → Withstands pdu v → AllMild v → AllMild (takes (channel_of pdu) pdu v)
  taken_mild pdu v stands all = by (held_at (channel_of pdu) v) refl
    where
      own : ℕ
      own = channel_of pdu

      with_carrier : (held : Held) → held_at own v ≡ Some held → (setup : Setup) → setup_of held.stage ≡ Some setup → (carrier : Option Carrier) → setup.carrier ≡ carrier → AllMild (takes_with carrier pdu held setup v)
      with_carrier held found setup has None is = all
      with_carrier held found setup has (Some carrier) is = taken (is_taken_with setup.own carrier pdu) refl
        where
          taken : (b : Bool) → is_taken_with setup.own carrier pdu ≡ b → AllMild (cond b (carries carrier pdu (with_setup held (granted_setup setup)) (granted_setup setup) (opens_with setup.own held setup v)) v)
          taken true now =
              carried (opens_with setup.own held setup v) carrier pdu (with_setup held (granted_setup setup)) (granted_setup setup)
              (λ at m same. stands (subst These (found-has own_of own v.held held found) at) setup m (ap setup_on found ∙ has) (is ∙ ap Some same) (sym (ap (λ c. is_taken_with setup.own c pdu) same) ∙ now)) (opened_with v setup.own held setup all)
          taken false now = all

      on : (held : Held) → held_at own v ≡ Some held → (setup : Option Setup) → setup_of held.stage ≡ setup → AllMild (takes_on setup pdu held v)
      on held found None has = all
      on held found (Some setup) has = with_carrier held found setup has setup.carrier refl

      by : (held : Option Held) → held_at own v ≡ held → AllMild (takes_held held pdu v)
      by None found = all
      by (Some held) found = on held found (setup_of held.stage) refl

  -- a signalling PDU has one command
  abbrev pub IsSingle : List ℕ → Type 0
  IsSingle pdu = eqb (channel_of pdu) 0x0001 ≡ true → (command : Command) × (answers (drop 4 pdu) ≡ Ok command ∷ [])

  pub comes_mildly : (policy : Policy) (v : Channels) (pdu : List ℕ) → IsSingle pdu → Withstands pdu v → (Guarded → AnswersNoEnd (said_in policy (Comes pdu) v)) → AllMild v → AllMild (value_after policy (Comes pdu) v)
  comes_mildly policy v pdu single stands none all = by (eqb (channel_of pdu) 0x0001) refl none
    where
      read : (list : List Read) (command : Command) → list ≡ Ok command ∷ [] → (Guarded → AnswersNoEnd (said_with_all policy list v)) → AllMild (hears_commands policy list v)
      read list command is so = subst (λ (l : List Read). AllMild (hears_commands policy l v)) (sym is) (command-mild policy command.identifier command.content v unanswered all)
        where
          one : Read
          one = Ok command

          exchange : List Saying
          exchange = exchanged one (reply_to policy one v) v

          unanswered : Guarded → AnswersNoEnd exchange
          unanswered guarded i o p stood =
              subst (λ (l : List Read). AnswersNoEnd (said_with_all policy l v)) is (so guarded) i o p
              (stands-left _ (exchange ++ asked_between v (hears_commands policy (one ∷ []) v)) [] (stands-left _ exchange (asked_between v (hears_commands policy (one ∷ []) v)) stood))

      by : (signals : Bool) → eqb (channel_of pdu) 0x0001 ≡ signals → (Guarded → AnswersNoEnd (cond (eqb (channel_of pdu) 0x0001) (said_with_all policy (answers (drop 4 pdu)) v) (Carried Into pdu ∷ asked_between v (takes (channel_of pdu) pdu v)))) → AllMild (value_after policy (Comes pdu) v)
      by true is so =
          let (command, read_is) = single is in
          subst (λ b. AllMild (cond b (hears_commands policy (answers (drop 4 pdu)) v) (takes (channel_of pdu) pdu v))) (sym is)
          (read (answers (drop 4 pdu)) command read_is (λ guarded. subst (λ b. AnswersNoEnd (cond b (said_with_all policy (answers (drop 4 pdu)) v) (Carried Into pdu ∷ asked_between v (takes (channel_of pdu) pdu v)))) is (so guarded)))
      by false is so = subst (λ b. AllMild (cond b (hears_commands policy (answers (drop 4 pdu)) v) (takes (channel_of pdu) pdu v))) (sym is) (taken_mild pdu v stands all)

  -- ---- what the host does

  calls_mildly : (psm : ℕ) (v : Channels) → AllMild v → AllMild (connected psm v)
  calls_mildly psm v all = either (can_connect v) (asks (errands.Connection v.next) (with_channel psm (Requested (new_request v)) v)) v all all

  asks_mildly : (v : Channels) → AllMild v → AllMild (asks_features v)
  asks_mildly v all = either (is_some v.features) v (asks errands.Features (record v { features = Some (new_request v) })) all all

  leaves_mildly : (own : ℕ) (v : Channels) → AllMild v → AllMild (disconnected own v)
  leaves_mildly own v all = by (held_at own v)
    where
      at : (held : Held) (stage : Stage) → AllMild (disconnected_at stage held v)
      at held (Requested request) = closed_so v held held.stage OwnClosed tt all
      at held (Connected peer setup) = all
      at held (Leaving peer setup request) = all
      at held (Closing peer request checked) = all
      at held (Crossed peer request) = all

      by : (held : Option Held) → AllMild (disconnected_held held v)
      by None = all
      by (Some held) = at held held.stage

  sends_mildly : (own : ℕ) (sdu : List ℕ) (v : Channels) → AllMild v → AllMild (sends own sdu v)
  sends_mildly own sdu v all = by (held_at own v)
    where
      on : (held : Held) (setup : Option Setup) → AllMild (sends_on setup sdu held v)
      on held None = all
      on held (Some setup) = all

      by : (held : Option Held) → AllMild (sends_held held sdu v)
      by None = all
      by (Some held) = on held (setup_of held.stage)

  -- ---- what it gives

  counted_at : (f : Stage → Stage) (found : Option Held) (v : Channels) → AllMild v → AllMild (stage_given f found v)
  counted_at f None v all = all
  counted_at f (Some held) v all = all

  counts_mildly : (errand : Errand) (v : Channels) → AllMild v → AllMild (counted errand v)
  counts_mildly (errands.Connection own) v all = counted_at _ (held_at own v) v all
  counts_mildly (errands.Configuration own) v all = counted_at _ (held_at own v) v all
  counts_mildly (errands.Disconnection own) v all = counted_at _ (held_at own v) v all
  counts_mildly errands.Features v all = all

  gives_mildly : (v : Channels) → AllMild v → AllMild (after_given v)
  gives_mildly v all = by v.queue
    where
      on : (held : Held) (setup : Option Setup) → AllMild (carrier_spent setup held v)
      on held None = all
      on held (Some setup) = all

      first : (held : Option Held) → AllMild (held_given held v)
      first None = all
      first (Some held) = on held (setup_of held.stage)

      by : (queue : List Queued) → AllMild (queue_given queue v)
      by [] = first (find gives v.held)
      by (Answer command ∷ behind) = all
      by (Ask errand ∷ behind) = counts_mildly errand (record v { queue = behind }) all

  -- ---- anything that it does alone, but for its timer and what it is told

  pub alone_mildly : (policy : Policy) (one : Occurrence) (v : Channels) → (one ≡ Fires → AllMild (value_after policy Fires v)) → ((pdu : List ℕ) → one ≡ Comes pdu → ⊥) → (one ≡ Tells → ⊥) → AllMild v → AllMild (value_after policy one v)
  alone_mildly policy (Comes pdu) v timer comes tells_not all = absurd (comes pdu refl)
  alone_mildly policy (Connects psm) v timer comes tells_not all = calls_mildly psm v all
  alone_mildly policy AsksFeatures v timer comes tells_not all = asks_mildly v all
  alone_mildly policy (Disconnects own) v timer comes tells_not all = leaves_mildly own v all
  alone_mildly policy (Sends own sdu) v timer comes tells_not all = sends_mildly own sdu v all
  alone_mildly policy (Gives pdu) v timer comes tells_not all = gives_mildly v all
  alone_mildly policy Fires v timer comes tells_not all = timer refl
  alone_mildly policy Tells v timer comes tells_not all = absurd (tells_not refl)
