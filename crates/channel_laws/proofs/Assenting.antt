-- A host that said success to a request for options has accepted options of a channel for that endpoint of its peer.
use Rattle.std.proofs.Common.{◌≡◌, ℕ, ◌%◌, List, [], ◌∷◌, ◌++◌, map, drop, Bool, true, false, cond, eqb, Option, Some, None, Result, Ok, Err, refl, sym, ap, subst, ◌∙◌, ◌⊎◌, inl, inr, append_assoc, append-nil}
use Rattle.std.specs.Prelude.{find, is_some}
use Rattle.std.specs.List.{AllByRecursion}
use Rattle.own_channel_laws.specs.talk_laws.specs.acl_fragments.specs.Pieces.{channel_of}
use Rattle.own_channel_laws.specs.talk_laws.specs.capture.specs.declared.flow.Flow.TheVariants.{Into}
use Rattle.own_channel_laws.specs.talk_laws.specs.l2cap_signal.specs.Commands.{Command, Content, reject, connection_request, connection_response, configuration_request, configuration_response, disconnection_request, disconnection_response, echo_request, echo_response, information_request, information_response}
use Rattle.own_channel_laws.specs.talk_laws.specs.l2cap_signal.specs.Reading.{Answer as Read, answers}
use Rattle.own_channel_laws.specs.talk_laws.specs.l2cap_signal.specs.declared.refusal.SignalRefusal.TheVariants.{ZeroIdentifier, BadLength, UnknownCode, AboveMtu}
use Rattle.own_channel_laws.specs.talk_laws.specs.l2cap_config.specs.declared.options.Options.{Options}
use Rattle.own_channel_laws.specs.talk_laws.specs.l2cap_config.specs.declared.options.ConfigRefusal.{ConfigRefusal}
use Rattle.own_channel_laws.specs.talk_laws.specs.l2cap_config.specs.declared.agreement.ConfigAnswer.{ConfigAnswer}
use Rattle.own_channel_laws.specs.talk_laws.specs.l2cap_config.specs.declared.agreement.ConfigAnswer.TheVariants.{Accept, Unacceptable, Unknown}
use Rattle.own_channel_laws.specs.talk_laws.specs.l2cap_config.specs.declared.wish.Wish.{Wish}
use Rattle.own_channel_laws.specs.talk_laws.specs.l2cap_config.specs.Agreement.{answered as answer_on}
use Rattle.own_channel_laws.specs.talk_laws.specs.l2cap_config.specs.Items.{joined}
use Rattle.own_channel_laws.specs.talk_laws.specs.l2cap_config.specs.Reading.{options_read}
use Rattle.own_channel_laws.specs.talk_laws.specs.link_talk.specs.Sayings.{Saying, Carried}
use Rattle.own_channel_laws.specs.talk_laws.specs.link_talk.specs.Sayings as sayings
use Rattle.own_channel_laws.specs.talk_laws.specs.link_talk.specs.Channels.{reading}
use Rattle.own_channel_laws.specs.channel_model.specs.declared.request_kind.RequestKind.{RequestKind}
use Rattle.own_channel_laws.specs.channel_model.specs.declared.request_kind.RequestKind.TheVariants as kinds
use Rattle.own_channel_laws.specs.channel_model.specs.Value.{Own, Unasked, Asking, Granted, Setup, Stage, Requested, Connected, Leaving, Closing, Crossed, Held, Remembered, Memory, Channels}
use Rattle.own_channel_laws.specs.channel_model.specs.Policies.{Policy}
use Rattle.own_channel_laws.specs.channel_model.specs.Changing.{has_own, held_at, is_open, setup_of, stage_with, with_setup}
use Rattle.own_channel_laws.specs.channel_model.specs.Asking.{first_options}
use Rattle.own_channel_laws.specs.channel_model.specs.Configuring.{Verdict, TooLate, Judged, judged_part, judged_read, judged_setup, judged_stage, verdict_on, accepted_setup, accepts_with, follows_verdict}
use Rattle.own_channel_laws.specs.channel_model.specs.Answers.{kind_of_code, remembered, with_remembered, not_understood, too_long, connection_result, connection_answer, judged_answer, configuration_answer, information_answer, answer_to}
use Rattle.own_channel_laws.specs.channel_model.specs.Following.{follows_setup, follows_configuration, follows, remembers, says, can_say, hears_new, hears_again, hears_kind, hears_request}
use Rattle.own_channel_laws.specs.channel_model.specs.Responses.{features_in}
use Rattle.own_channel_laws.specs.channel_model.specs.Hearing.{hears_content, hears_malformed, is_response_code, is_kind, hears_unread, hears_command, hears_commands}
use Rattle.own_channel_laws.specs.channel_model.specs.Carrying.{takes}
use Rattle.own_channel_laws.specs.channel_model.specs.Timing.{times_channels, timed_out}
use Rattle.own_channel_laws.specs.channel_model.specs.Giving.{next_given}
use Rattle.own_channel_laws.specs.channel_model.specs.Calls.{carrier_at, connected, asks_features, disconnected}
use Rattle.own_channel_laws.specs.channel_model.proofs.Walking.{found-own, with-found, with-setup}
use Rattle.own_channel_laws.specs.OwnTalk.{spoken, command_with, response_by, response_as, response_to, response_malformed, response_unread, command_if, exchanged, asked_between, said_with, said_with_all}
use Rattle.own_channel_laws.specs.Runs.{Occurrence, Comes, Connects, AsksFeatures, Disconnects, Sends, Gives, Fires, Tells, peer_at, said_by_channels, said_in, value_after, Run}
use Rattle.own_channel_laws.specs.Views.{peer_of}
use Rattle.own_channel_laws.specs.Signals.{StandsIn}
use Rattle.channel_laws.specs.Consent.{SuccessesAccept}
use Rattle.own_channel_laws.proofs.Commands.{IsTold, hears-any}
use Rattle.own_channel_laws.proofs.Conversing.{says_memory, features_memory, features_lost, single_memory, reading-on}
use Rattle.own_channel_laws.proofs.Converses.{is_single}
use Rattle.own_channel_laws.proofs.Lasting.{follows-lasts, grant-lasts, response-lasts, end-lasts, takes-lasts}
use Rattle.own_channel_laws.proofs.Mild.{is_about_options}
use Rattle.own_channel_laws.proofs.PlainReplies.{plain_response, some_plain, no_plain, ended_plain, informed_plain}
use Rattle.own_channel_laws.proofs.Running.{IsSound, along}
use Rattle.own_channel_laws.proofs.Saying.{stands-left, stands-right, stands-either}
use Rattle.own_channel_laws.proofs.Sound.{Sound}
use Rattle.own_channel_laws.proofs.Told.{all-told}
use Rattle.own_channel_laws.proofs.Words.{words-left}
use Rattle.channel_laws.proofs.Assents.{IsCarried, carried-accepted, success_to, plain_none, Backs, backs_more, Assents, IsSilent, both_silent, carried_silent, own_words, asked_silent, carrier_silent, given_silent, fired_silent, fired_memory, silent_assents}

-- ---- options are accepted

-- behind success a channel carries, or the request was one of which more follows
abbrev Leads_to : (flags peer : ℕ) → Channels → Type 0
Leads_to flags peer w = IsCarried peer w ⊎ (eqb (flags % 2) 1 ≡ true)

accepted_there : (own : Own) (wish : Wish) (held : Held) (after : Setup) (u : Channels) → find (has_own held.own) u.held ≡ Some held → is_some after.carrier ≡ true
    → (now : Setup) × (find (has_own held.own) (accepts_with own wish held after u).held ≡ Some (with_setup held now)) × (is_some now.carrier ≡ true)
accepted_there Unasked wish held after u found some = let now : Setup = record after { own = Asking _ (first_options wish) } in (now, with-found u held now found, some)
accepted_there (Asking request options) wish held after u found some = (after, with-found u held after found, some)
accepted_there Granted wish held after u found some = (after, with-found u held after found, some)

peer_with : (stage : Stage) (setup after : Setup) (peer : ℕ) → setup_of stage ≡ Some setup → peer_of stage ≡ Some peer → peer_of (stage_with after stage) ≡ Some peer
peer_with (Requested request) setup after peer has to = cc
peer_with (Connected at s) setup after peer has to = to
peer_with (Leaving at s request) setup after peer has to = to
peer_with (Closing at request checked) setup after peer has to = cc
peer_with (Crossed at request) setup after peer has to = cc

module _ (wish : Wish) (held : Held) (setup : Setup) (u : Channels) (own peer to : ℕ) (found : find (has_own held.own) u.held ≡ Some held) (has : setup_of held.stage ≡ Some setup) (peer_is : peer_of held.stage ≡ Some peer) where
  answer_leads : (options : Options) (answer : ConfigAnswer) → success_to (judged_answer answer peer options) ≡ Some to → IsCarried to (follows_verdict (Judged peer options answer) wish held setup u)
  answer_leads options (Accept given) success =
      let (now, there, some) = accepted_there setup.own wish held (accepted_setup wish options setup) u found refl in
      record { held = with_setup held now; setup = now; found = there; has = with-setup held.stage setup now has; to = peer_with held.stage setup now peer has peer_is ∙ success; carries = some }
  answer_leads options (Unacceptable refusal given) success = cc
  answer_leads options Unknown success = cc

  setup_leads : (flags : ℕ) (octets : List ℕ) → success_to (configuration_answer (judged_setup peer flags wish setup octets) own) ≡ Some to → Leads_to flags to (follows_verdict (judged_setup peer flags wish setup octets) wish held setup u)
  setup_leads flags octets = shut (is_open setup)
    where
      part : (options : Options) (more : Bool) → eqb (flags % 2) 1 ≡ more → success_to (configuration_answer (judged_part more peer wish options) own) ≡ Some to → Leads_to flags to (follows_verdict (judged_part more peer wish options) wish held setup u)
      part options true odd success = inr odd
      part options false odd success = inl (answer_leads options (answer_on wish options) success)

      read_it : (r : Result Options ConfigRefusal) → success_to (configuration_answer (judged_read peer flags wish setup r) own) ≡ Some to → Leads_to flags to (follows_verdict (judged_read peer flags wish setup r) wish held setup u)
      read_it (Ok options) success = part (joined setup.parts options) (eqb (flags % 2) 1) refl success
      read_it (Err refusal) success = cc

      shut : (opened : Bool) → success_to (configuration_answer (cond opened (TooLate peer) (judged_read peer flags wish setup (options_read octets))) own) ≡ Some to
          → Leads_to flags to (follows_verdict (cond opened (TooLate peer) (judged_read peer flags wish setup (options_read octets))) wish held setup u)
      shut true success = cc
      shut false success = read_it (options_read octets) success

stage_leads : (wish : Wish) (held : Held) (setup : Setup) (u : Channels) (own to flags : ℕ) (octets : List ℕ) (stage : Stage) → find (has_own held.own) u.held ≡ Some held → held.stage ≡ stage → setup_of stage ≡ Some setup
    → success_to (configuration_answer (judged_stage stage wish flags octets) own) ≡ Some to → Leads_to flags to (follows_verdict (judged_stage stage wish flags octets) wish held setup u)
stage_leads wish held setup u own to flags octets (Requested request) found is has success = cc
stage_leads wish held setup u own to flags octets (Connected peer s) found is has success =
    let same : s ≡ setup = cc in
    subst (λ x. Leads_to flags to (follows_verdict (judged_setup peer flags wish x octets) wish held setup u)) (sym same)
    (setup_leads wish held setup u own peer to found (ap setup_of is ∙ has) (ap peer_of is) flags octets (subst (λ x. success_to (configuration_answer (judged_setup peer flags wish x octets) own) ≡ Some to) same success))
stage_leads wish held setup u own to flags octets (Leaving peer s request) found is has success =
    let same : s ≡ setup = cc in
    subst (λ x. Leads_to flags to (follows_verdict (judged_setup peer flags wish x octets) wish held setup u)) (sym same)
    (setup_leads wish held setup u own peer to found (ap setup_of is ∙ has) (ap peer_of is) flags octets (subst (λ x. success_to (configuration_answer (judged_setup peer flags wish x octets) own) ≡ Some to) same success))
stage_leads wish held setup u own to flags octets (Closing peer request checked) found is has success = cc
stage_leads wish held setup u own to flags octets (Crossed peer request) found is has success = cc

unset_fails : (wish : Wish) (own flags : ℕ) (octets : List ℕ) (stage : Stage) → setup_of stage ≡ None → success_to (configuration_answer (judged_stage stage wish flags octets) own) ≡ None
unset_fails wish own flags octets (Requested request) none = refl
unset_fails wish own flags octets (Connected peer setup) none = cc
unset_fails wish own flags octets (Leaving peer setup request) none = cc
unset_fails wish own flags octets (Closing peer request checked) none = refl
unset_fails wish own flags octets (Crossed peer request) none = refl

configuration_leads : (policy : Policy) (own to flags : ℕ) (octets : List ℕ) (u : Channels) (held : Option Held) → find (has_own own) u.held ≡ held → success_to (configuration_answer (verdict_on held policy flags octets) own) ≡ Some to → Leads_to flags to (follows_configuration held policy flags octets u)
configuration_leads policy own to flags octets u None at success = cc
configuration_leads policy own to flags octets u (Some held) at success = by (setup_of held.stage) refl
  where
    wish : Wish
    wish = policy.wish held.psm

    found : find (has_own held.own) u.held ≡ Some held
    found = found-own own u held at

    by : (setup : Option Setup) → setup_of held.stage ≡ setup → Leads_to flags to (follows_setup setup policy held flags octets u)
    by None has = let never : None ≡ Some to = sym (unset_fails wish own flags octets held.stage has) ∙ success in absurd cc
    by (Some setup) has =
        subst (λ (now : Verdict). Leads_to flags to (follows_verdict now wish held setup u)) (sym (ap (λ h. verdict_on h policy flags octets) found)) (stage_leads wish held setup u own to flags octets held.stage found refl has success)

-- ---- a request and its answer

says_held : (identifier : ℕ) (response : Option Content) (v : Channels) → (says identifier response v).held ≡ v.held
says_held identifier None v = refl
says_held identifier (Some content) v = refl

-- what is said is the answer
record IsIn (v : Channels) (identifier : ℕ) (response : Option Content) (c : Command) : Type 0 where
  content : Content
  response_is : response ≡ Some content
  can : can_say response v ≡ true
  same : content ≡ c.content

in_exchanged : (one : Read) (identifier : ℕ) (response : Option Content) (v : Channels) (c : Command) → StandsIn (spoken c) (exchanged one (command_if identifier response) v) → IsIn v identifier response c
in_exchanged one identifier None v c (inl same) = cc
in_exchanged one identifier None v c (inr none) = elim none [ ]
in_exchanged one identifier (Some content) v c stands = by (can_say (Some content) v) refl stands
  where
    by : (can : Bool) → can_say (Some content) v ≡ can → StandsIn (spoken c) (cond can (sayings.Command Into one ∷ spoken (command_with identifier content) ∷ []) []) → IsIn v identifier (Some content) c
    by true can (inl same) = cc
    by true can (inr (inl same)) = let whole : command_with identifier content ≡ c = cc in record { content = content; response_is = refl; can = can; same = ap (λ (x : Command). x.content) whole }
    by true can (inr (inr none)) = elim none [ ]
    by false can none = elim none [ ]

-- where it can be said the request is heard
heard_in : (one : Read) (identifier : ℕ) (response : Option Content) (v : Channels) → can_say response v ≡ true → StandsIn (sayings.Command Into one) (exchanged one (command_if identifier response) v)
heard_in one identifier None v can = inl refl
heard_in one identifier (Some content) v can = subst (λ b. StandsIn (sayings.Command Into one) (cond b (sayings.Command Into one ∷ spoken (command_with identifier content) ∷ []) [])) (sym can) (inl refl)

abbrev Steps : Policy → List Saying → Channels → Read → (identifier : ℕ) → Option Content → Channels → Type 0
Steps policy past v one identifier response w =
    (let said : List Saying = exchanged one (command_if identifier response) v ++ asked_between v w in Sound policy (reading (past ++ said)) w → Assents past v → Assents (past ++ said) w)

-- with what is said to be so of the answer, and of what is remembered
said_step : (past : List Saying) (v w : Channels) (one : Read) (identifier : ℕ) (response : Option Content) → (let said : List Saying = exchanged one (command_if identifier response) v ++ asked_between v w in
    ((content : Content) (peer : ℕ) → response ≡ Some content → can_say response v ≡ true → success_to content ≡ Some peer → Backs peer (past ++ said))
    → ((last : Remembered) (content : Content) (peer : ℕ) → w.memory.configuration ≡ Some last → last.response ≡ Some content → success_to content ≡ Some peer → Backs peer (past ++ said)) → Assents past v → Assents (past ++ said) w)
said_step past v w one identifier response answers kept a = record { said = by; kept = kept }
  where
    answer : List Saying
    answer = exchanged one (command_if identifier response) v

    said : List Saying
    said = answer ++ asked_between v w

    by : (c : Command) (peer : ℕ) → StandsIn (spoken c) (past ++ said) → success_to c.content ≡ Some peer → Backs peer (past ++ said)
    by c peer stands success = of (stands-either (spoken c) past said stands)
      where
        now : StandsIn (spoken c) answer ⊎ StandsIn (spoken c) (asked_between v w) → Backs peer (past ++ said)
        now (inl new) = let it : IsIn v identifier response c = in_exchanged one identifier response v c new in answers it.content peer it.response_is it.can (ap success_to it.same ∙ success)
        now (inr own) = absurd (asked_silent v w c peer own success)

        of : StandsIn (spoken c) past ⊎ StandsIn (spoken c) said → Backs peer (past ++ said)
        of (inl old) = backs_more peer past said (a.said c peer old success)
        of (inr new) = now (stands-either (spoken c) answer (asked_between v w) new)

-- an answer that is about no options
plain_step : (policy : Policy) (past : List Saying) (v w : Channels) (one : Read) (identifier : ℕ) (response : Option Content) → ((content : Content) → response ≡ Some content → is_about_options content ≡ false) → w.memory.configuration ≡ v.memory.configuration
    → Steps policy past v one identifier response w
plain_step policy past v w one identifier response plain same sound a =
    said_step past v w one identifier response (λ content peer is can success. let never : None ≡ Some peer = sym (plain_none content (plain content is)) ∙ success in absurd cc)
    (λ last content peer at is success. backs_more peer past (exchanged one (command_if identifier response) v ++ asked_between v w) (a.kept last content peer (sym same ∙ at) is success)) a

-- a request for options of which more follow
record IsPart (one : Read) : Type 0 where
  identifier : ℕ
  own : ℕ
  flags : ℕ
  options : List ℕ
  odd : eqb (flags % 2) 1 ≡ true
  is : one ≡ Ok (command_with identifier (configuration_request own flags options))

some_content : (a b : Content) → Some a ≡ Some b → a ≡ b
some_content a b is = cc

some_last : (a b : Remembered) → Some a ≡ Some b → a ≡ b
some_last a b is = cc

module _ (policy : Policy) (past : List Saying) (v : Channels) (one : Read) (identifier : ℕ) (fresh_one : Option Content) (more : Channels → Channels) (keeps : (u : Channels) → (more u).memory ≡ u.memory)
    (leads : (content : Content) (peer : ℕ) → fresh_one ≡ Some content → success_to content ≡ Some peer → (u : Channels) → u.held ≡ v.held → IsCarried peer (more u) ⊎ IsPart one) where
  -- a new one
  new_step : Steps policy past v one identifier fresh_one (hears_new kinds.Configuration identifier fresh_one more v)
  new_step = by (can_say fresh_one v) refl
    where
      last_one : Remembered
      last_one = record { identifier = identifier; response = fresh_one }

      t : Channels
      t = remembers kinds.Configuration identifier fresh_one v

      u : Channels
      u = says identifier fresh_one t

      by : (can : Bool) → can_say fresh_one v ≡ can → Steps policy past v one identifier fresh_one (cond can (more u) v)
      by true can sound a = said_step past v (more u) one identifier fresh_one (λ content peer is able success. now content peer is success) remembered_so a
        where
          said : List Saying
          said = exchanged one (command_if identifier fresh_one) v ++ asked_between v (more u)

          now : (content : Content) (peer : ℕ) → fresh_one ≡ Some content → success_to content ≡ Some peer → Backs peer (past ++ said)
          now content peer is success = of (leads content peer is success u (says_held identifier fresh_one t))
            where
              of : IsCarried peer (more u) ⊎ IsPart one → Backs peer (past ++ said)
              of (inl carried) = inl (carried-accepted policy (past ++ said) (more u) peer sound carried)
              of (inr part) =
                  inr (
                    part.identifier,
                    part.own,
                    part.flags,
                    part.options,
                    part.odd,
                    subst (λ x. StandsIn (sayings.Command Into x) (past ++ said)) part.is
                        (stands-right (sayings.Command Into one) past said (stands-left (sayings.Command Into one) (exchanged one (command_if identifier fresh_one) v) (asked_between v (more u)) (heard_in one identifier fresh_one v can))),
                  )

          remembered_so : (last : Remembered) (content : Content) (peer : ℕ) → (more u).memory.configuration ≡ Some last → last.response ≡ Some content → success_to content ≡ Some peer → Backs peer (past ++ said)
          remembered_so last content peer at is success =
              let same : last_one ≡ last = some_last last_one last (sym (ap (λ (m : Memory). m.configuration) (keeps u ∙ says_memory identifier fresh_one t)) ∙ at) in
              now content peer (ap (λ (l : Remembered). l.response) same ∙ is) success
      by false shut sound a =
          said_step past v v one identifier fresh_one (λ content peer is able success. let never : true ≡ false = sym able ∙ shut in absurd cc)
          (λ last content peer at is success. backs_more peer past (exchanged one (command_if identifier fresh_one) v ++ asked_between v v) (a.kept last content peer at is success)) a

  -- the last one again
  again_step : (l : Remembered) → v.memory.configuration ≡ Some l → Steps policy past v one identifier l.response (hears_again identifier l.response v)
  again_step l at = by (can_say l.response v)
    where
      still : (can : Bool) → (cond can (says identifier l.response v) v).memory ≡ v.memory
      still true = says_memory identifier l.response v
      still false = refl

      by : (can : Bool) → Steps policy past v one identifier l.response (cond can (says identifier l.response v) v)
      by can sound a =
          let w : Channels = cond can (says identifier l.response v) v in
          let said : List Saying = exchanged one (command_if identifier l.response) v ++ asked_between v w in
          said_step past v w one identifier l.response (λ content peer is able success. backs_more peer past said (a.kept l content peer at is success))
          (λ last content peer there is success. backs_more peer past said (a.kept last content peer (sym (ap (λ (m : Memory). m.configuration) (still can)) ∙ there) is success)) a

  options_step : (last : Option Remembered) → v.memory.configuration ≡ last → Steps policy past v one identifier (response_by last identifier fresh_one) (hears_kind last kinds.Configuration identifier fresh_one more v)
  options_step None at = new_step
  options_step (Some l) at = by (eqb l.identifier identifier)
    where
      by : (same : Bool) → Steps policy past v one identifier (cond same l.response fresh_one) (cond same (hears_again identifier l.response v) (hears_new kinds.Configuration identifier fresh_one more v))
      by true = again_step l at
      by false = new_step

-- ---- requests of other kinds

again_memory : (identifier : ℕ) (response : Option Content) (v : Channels) → (hears_again identifier response v).memory ≡ v.memory
again_memory identifier response v = by (can_say response v)
  where
    by : (can : Bool) → (cond can (says identifier response v) v).memory ≡ v.memory
    by true = says_memory identifier response v
    by false = refl

other_memory : (kind : RequestKind) (last : Remembered) (memory : Memory) → (kind ≡ kinds.Configuration → ⊥) → (with_remembered kind last memory).configuration ≡ memory.configuration
other_memory kinds.Connection last memory other = refl
other_memory kinds.Configuration last memory other = absurd (other refl)
other_memory kinds.Disconnection last memory other = refl
other_memory kinds.Echo last memory other = refl
other_memory kinds.Information last memory other = refl

kind_memory : (kind : RequestKind) → (kind ≡ kinds.Configuration → ⊥) → (last : Option Remembered) (identifier : ℕ) (given : Option Content) (more : Channels → Channels) (v : Channels) → ((u : Channels) → (more u).memory ≡ u.memory)
    → (hears_kind last kind identifier given more v).memory.configuration ≡ v.memory.configuration
kind_memory kind other last identifier given more v keeps = by last
  where
    u : Channels
    u = says identifier given (remembers kind identifier given v)

    new : (can : Bool) → (cond can (more u) v).memory.configuration ≡ v.memory.configuration
    new true = ap (λ (m : Memory). m.configuration) (keeps u ∙ says_memory identifier given (remembers kind identifier given v)) ∙ other_memory kind (record { identifier = identifier; response = given }) v.memory other
    new false = refl

    again : (l : Remembered) (same : Bool) → (cond same (hears_again identifier l.response v) (hears_new kind identifier given more v)).memory.configuration ≡ v.memory.configuration
    again l true = ap (λ (m : Memory). m.configuration) (again_memory identifier l.response v)
    again l false = new (can_say given v)

    by : (last : Option Remembered) → (hears_kind last kind identifier given more v).memory.configuration ≡ v.memory.configuration
    by None = new (can_say given v)
    by (Some l) = again l (eqb l.identifier identifier)

-- ---- each command

module _ (policy : Policy) (past : List Saying) (v : Channels) (sound : Sound policy (reading past) v) where
  kind_step : (one : Read) (kind : RequestKind) (identifier : ℕ) (given : Option Content) (more : Channels → Channels) → (kind ≡ kinds.Configuration → ⊥) → ((content : Content) → given ≡ Some content → is_about_options content ≡ false) → ((u : Channels) → (more u).memory ≡ u.memory)
      → Steps policy past v one identifier (response_as kind identifier given v) (hears_request kind identifier given more v)
  kind_step one kind identifier given more other plain keeps =
      plain_step policy past v (hears_request kind identifier given more v) one identifier (response_as kind identifier given v) (plain_response policy (reading past) v sound kind other identifier given plain)
      (kind_memory kind other (remembered kind v.memory) identifier given more v keeps)

  question_step : (kind : RequestKind) (identifier : ℕ) (content : Content) → (kind ≡ kinds.Configuration → ⊥) → ((answer : Content) → answer_to policy content v ≡ Some answer → is_about_options answer ≡ false)
      → Steps policy past v (Ok (command_with identifier content)) identifier (response_as kind identifier (answer_to policy content v) v) (hears_request kind identifier (answer_to policy content v) (follows policy content) v)
  question_step kind identifier content other plain = kind_step (Ok (command_with identifier content)) kind identifier (answer_to policy content v) (follows policy content) other plain (λ u. (follows-lasts policy content u).1)

  silent_step : (one : Read) (identifier : ℕ) (w : Channels) → w.memory ≡ v.memory → Steps policy past v one identifier None w
  silent_step one identifier w same = plain_step policy past v w one identifier None no_plain (ap (λ (m : Memory). m.configuration) same)

  content_step : (identifier : ℕ) (content : Content) → Steps policy past v (Ok (command_with identifier content)) identifier (response_to policy identifier content v) (hears_content policy identifier content v)
  content_step identifier (reject reason rest) = silent_step _ identifier _ (features_memory identifier None v)
  content_step identifier (connection_request psm source) = question_step kinds.Connection identifier (connection_request psm source) (λ is. cc) (some_plain (connection_answer (connection_result policy psm source v) source v) refl)
  content_step identifier (connection_response destination source answer status) = silent_step _ identifier _ (grant-lasts v (held_at source v) policy identifier destination answer).1
  content_step identifier (configuration_request own flags octets) =
      let content : Content = configuration_request own flags octets in
      options_step policy past v (Ok (command_with identifier content)) identifier (answer_to policy content v) (follows policy content) (λ u. (follows-lasts policy content u).1)
      (λ given peer is success u same. of peer u (configuration_leads policy own peer flags octets u (held_at own u) refl
      (ap (λ h. success_to (configuration_answer (verdict_on (find (has_own own) h) policy flags octets) own)) same ∙ (ap success_to (some_content _ given is) ∙ success)))) v.memory.configuration refl
    where
      of : (peer : ℕ) (u : Channels) → Leads_to flags peer (follows_configuration (held_at own u) policy flags octets u) → IsCarried peer (follows policy (configuration_request own flags octets) u) ⊎ IsPart (Ok (command_with identifier (configuration_request own flags octets)))
      of peer u (inl carried) = inl carried
      of peer u (inr odd) = inr (record { identifier = identifier; own = own; flags = flags; options = octets; odd = odd; is = refl })
  content_step identifier (configuration_response source flags answer options) = silent_step _ identifier _ (response-lasts v (held_at source v) policy identifier answer options).1
  content_step identifier (disconnection_request destination source) = question_step kinds.Disconnection identifier (disconnection_request destination source) (λ is. cc) (ended_plain (held_at destination v) destination source)
  content_step identifier (disconnection_response destination source) = silent_step _ identifier _ (end-lasts v (held_at source v) destination).1
  content_step identifier (echo_request octets) = question_step kinds.Echo identifier (echo_request octets) (λ is. cc) (some_plain (echo_response octets) refl)
  content_step identifier (echo_response octets) = silent_step _ identifier v refl
  content_step identifier (information_request kind) = question_step kinds.Information identifier (information_request kind) (λ is. cc) (some_plain (information_answer kind) (informed_plain kind))
  content_step identifier (information_response kind answer rest) = silent_step _ identifier _ (features_memory identifier (features_in kind answer rest) v)

  -- one that cannot be read
  malformed_step : (one : Read) (identifier : ℕ) (kind : RequestKind) → Steps policy past v one identifier (response_as kind identifier (Some not_understood) v) (hears_request kind identifier (Some not_understood) (λ w. w) v)
  malformed_step one identifier kinds.Connection = kind_step one kinds.Connection identifier (Some not_understood) (λ w. w) (λ is. cc) (some_plain not_understood refl) (λ u. refl)
  malformed_step one identifier kinds.Configuration =
      options_step policy past v one identifier (Some not_understood) (λ w. w) (λ u. refl)
      (λ given peer is success u same. let never : None ≡ Some peer = ap success_to (some_content not_understood given is) ∙ success in absurd cc) v.memory.configuration refl
  malformed_step one identifier kinds.Disconnection = kind_step one kinds.Disconnection identifier (Some not_understood) (λ w. w) (λ is. cc) (some_plain not_understood refl) (λ u. refl)
  malformed_step one identifier kinds.Echo = kind_step one kinds.Echo identifier (Some not_understood) (λ w. w) (λ is. cc) (some_plain not_understood refl) (λ u. refl)
  malformed_step one identifier kinds.Information = kind_step one kinds.Information identifier (Some not_understood) (λ w. w) (λ is. cc) (some_plain not_understood refl) (λ u. refl)

  repeat_step : (one : Read) (identifier : ℕ) (content : Content) → is_about_options content ≡ false → Steps policy past v one identifier (Some content) (hears_again identifier (Some content) v)
  repeat_step one identifier content plain =
      plain_step policy past v (hears_again identifier (Some content) v) one identifier (Some content) (some_plain content plain) (ap (λ (m : Memory). m.configuration) (again_memory identifier (Some content) v))

  unread_step : (one : Read) (code identifier : ℕ) → Steps policy past v one identifier (response_unread code identifier v) (hears_unread code identifier v)
  unread_step one code identifier = by (eqb identifier 0) (is_response_code code) (kind_of_code code)
    where
      by : (zero response : Bool) (kind : Option RequestKind)
          → Steps policy past v one identifier (cond zero None (cond response None (response_malformed kind identifier v))) (cond zero v (cond response v (cond (is_kind kind) (hears_malformed kind identifier v) (hears_again identifier (Some not_understood) v))))
      by true response kind = silent_step one identifier v refl
      by false true kind = silent_step one identifier v refl
      by false false None = repeat_step one identifier not_understood refl
      by false false (Some kind) = malformed_step one identifier kind

  long_step : (one : Read) (identifier : ℕ) (zero : Bool) → Steps policy past v one identifier (cond zero None (Some too_long)) (cond zero v (hears_again identifier (Some too_long) v))
  long_step one identifier true = silent_step one identifier v refl
  long_step one identifier false = repeat_step one identifier too_long refl

  command_step : (one : Read) → (let said : List Saying = said_with policy one v in let w : Channels = hears_command policy one v in Sound policy (reading (past ++ said)) w → Assents past v → Assents (past ++ said) w)
  command_step (Ok command) = content_step command.identifier command.content
  command_step (Err (ZeroIdentifier code identifier)) = silent_step (Err (ZeroIdentifier code identifier)) 0 v refl
  command_step (Err (BadLength code None)) = silent_step (Err (BadLength code None)) 0 v refl
  command_step (Err (BadLength code (Some identifier))) = unread_step (Err (BadLength code (Some identifier))) code identifier
  command_step (Err (UnknownCode code None)) = silent_step (Err (UnknownCode code None)) 0 v refl
  command_step (Err (UnknownCode code (Some identifier))) = unread_step (Err (UnknownCode code (Some identifier))) code identifier
  command_step (Err (AboveMtu code None)) = silent_step (Err (AboveMtu code None)) 0 v refl
  command_step (Err (AboveMtu code (Some identifier))) = long_step (Err (AboveMtu code (Some identifier))) identifier (eqb identifier 0)

-- ---- whatever happens

commands_step : (policy : Policy) (past : List Saying) (v : Channels) (list : List Read) → AllByRecursion IsTold list → Sound policy (reading past) v → Assents past v → Assents (past ++ said_with_all policy list v) (hears_commands policy list v)
commands_step policy past v [] told sound a = subst (λ l. Assents l v) (sym (append-nil past)) a
commands_step policy past v (one ∷ list) (now, told) sound a =
    let w : Channels = hears_command policy one v in
    let after : Sound policy (reading (past ++ said_with policy one v)) w = subst (λ r. Sound policy r w) (sym (reading-on past (said_with policy one v))) (hears-any policy (reading past) v one now sound) in
    subst (λ l. Assents l (hears_commands policy list w)) (append_assoc past (said_with policy one v) (said_with_all policy list w))
    (commands_step policy (past ++ said_with policy one v) w list told after (command_step policy past v sound one after a))

comes_step : (policy : Policy) (past : List Saying) (v : Channels) (pdu : List ℕ) (signals : Bool) → Sound policy (reading past) v → Assents past v
    → Assents (past ++ cond signals (said_with_all policy (answers (drop 4 pdu)) v) (Carried Into pdu ∷ asked_between v (takes (channel_of pdu) pdu v))) (cond signals (hears_commands policy (answers (drop 4 pdu)) v) (takes (channel_of pdu) pdu v))
comes_step policy past v pdu true sound a = commands_step policy past v (answers (drop 4 pdu)) (all-told (drop 4 pdu)) sound a
comes_step policy past v pdu false sound a =
    let w : Channels = takes (channel_of pdu) pdu v in
    silent_assents past (Carried Into pdu ∷ asked_between v w) v w (both_silent (Carried Into pdu ∷ []) (asked_between v w) (carried_silent Into pdu) (asked_silent v w)) (ap (λ (m : Memory). m.configuration) (takes-lasts (channel_of pdu) pdu v).1) a

single_step : (policy : Policy) (run : Run) (more : Occurrence) → is_single more ≡ true → IsSilent (said_in policy more run.value) → Assents run.said run.value → Assents (run.said ++ said_in policy more run.value) (value_after policy more run.value)
single_step policy run more is silent a = silent_assents run.said (said_in policy more run.value) run.value (value_after policy more run.value) silent (ap (λ (m : Memory). m.configuration) (single_memory policy more run.value is)) a

occurs_step : (policy : Policy) (run : Run) (more : Occurrence) → IsSound policy run → Assents run.said run.value → Assents (run.said ++ said_in policy more run.value) (value_after policy more run.value)
occurs_step policy run (Comes pdu) sound a = comes_step policy run.said run.value pdu (eqb (channel_of pdu) 0x0001) sound a
occurs_step policy run (Connects psm) sound a = single_step policy run (Connects psm) refl (asked_silent run.value (connected psm run.value)) a
occurs_step policy run AsksFeatures sound a = single_step policy run AsksFeatures refl (asked_silent run.value (asks_features run.value)) a
occurs_step policy run (Disconnects own) sound a = let w : Channels = disconnected own run.value in single_step policy run (Disconnects own) refl (words-left w IsSilent (own_words w) own run.value) a
occurs_step policy run (Sends own sdu) sound a = single_step policy run (Sends own sdu) refl (carrier_silent (carrier_at own run.value) (peer_at (held_at own run.value)) sdu) a
occurs_step policy run (Gives pdu) sound a = single_step policy run (Gives pdu) refl (given_silent (next_given run.value) pdu) a
occurs_step policy run Fires sound a =
    let owns : List ℕ = map (λ held. held.own) run.value.held in
    let after : Channels = times_channels policy.tries owns run.value in
    silent_assents run.said (said_by_channels policy.tries owns run.value) run.value (timed_out policy run.value) (fired_silent policy.tries owns run.value)
    (ap (λ (m : Memory). m.configuration) (features_lost policy.tries after after.features ∙ fired_memory policy.tries owns run.value)) a
occurs_step policy run Tells sound a = single_step policy run Tells refl (λ c peer stands success. stands) a

pub successes-accept : SuccessesAccept
successes-accept policy list identifier peer flags options stands =
    (along policy (λ run. Assents run.said run.value) (record { said = λ c p none success. elim none [ ]; kept = λ last content p at is success. cc }) (λ run more sound a. occurs_step policy run more sound a) list).1.said
    (command_with identifier (configuration_response peer flags 0 options)) peer stands refl
