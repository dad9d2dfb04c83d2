-- Requests for options come whole, so of none a part waits for its rest.
use Rattle.std.proofs.Common.{◌≡◌, ℕ, List, [], ◌∷◌, ◌++◌, drop, Bool, true, false, cond, eqb, ◌%◌, Option, Some, None, Result, Ok, Err, refl, sym, ap, subst, ◌∙◌, ◌⊎◌, inl, inr, append_assoc, append-nil}
use Rattle.std.specs.Prelude.{find, nat_le}
use Rattle.std.proofs.lemmas.List.Sums.{fold-append}
use Rattle.channel_laws.specs.acl_fragments.specs.Pieces.{channel_of}
use Rattle.channel_laws.specs.capture.specs.Histories.{EachAfter}
use Rattle.channel_laws.specs.l2cap_signal.specs.Commands.{Content, Command, reject, connection_request, connection_response, configuration_request, configuration_response, disconnection_request, disconnection_response, echo_request, echo_response, information_request, information_response}
use Rattle.channel_laws.specs.l2cap_signal.specs.Reading.{answers}
use Rattle.channel_laws.specs.l2cap_config.specs.declared.agreement.ConfigAnswer.{ConfigAnswer}
use Rattle.channel_laws.specs.l2cap_config.specs.declared.agreement.ConfigAnswer.TheVariants.{Accept, Unacceptable, Unknown}
use Rattle.channel_laws.specs.l2cap_config.specs.declared.options.ConfigRefusal.{ConfigRefusal}
use Rattle.channel_laws.specs.l2cap_config.specs.declared.options.Options.{Options}
use Rattle.channel_laws.specs.l2cap_config.specs.Agreement.{answered}
use Rattle.channel_laws.specs.l2cap_config.specs.Items.{no_options, joined}
use Rattle.channel_laws.specs.l2cap_config.specs.Reading.{options_read}
use Rattle.channel_laws.specs.l2cap_config.specs.Writing.{written}
use Rattle.channel_laws.specs.channel_model.specs.declared.event.CloseReason.TheVariants.{NoAgreement}
use Rattle.channel_laws.specs.channel_model.specs.declared.request_kind.RequestKind.TheVariants as kinds
use Rattle.channel_laws.specs.channel_model.specs.Answers.{answer_to}
use Rattle.channel_laws.specs.channel_model.specs.Calls.{has_fcs}
use Rattle.channel_laws.specs.channel_model.specs.Carrying.{takes}
use Rattle.channel_laws.specs.channel_model.specs.Changing.{has_own, held_at, setup_of, is_open, with_setup, to_setup}
use Rattle.channel_laws.specs.channel_model.specs.Closing.{closes}
use Rattle.channel_laws.specs.channel_model.specs.Configuring.{Verdict, TooLate, judged_part, judged_read, judged_setup, judged_stage, verdict_on, accepted_setup, without_parts, refused_setup, follows_answer, follows_verdict}
use Rattle.channel_laws.specs.channel_model.specs.Following.{follows, follows_setup, follows_configuration}
use Rattle.channel_laws.specs.channel_model.specs.Giving.{Given, next_given}
use Rattle.channel_laws.specs.channel_model.specs.Hearing.{hears_content, hears_commands}
use Rattle.channel_laws.specs.channel_model.specs.Policies.{Policy}
use Rattle.channel_laws.specs.channel_model.specs.Responses.{features_in}
use Rattle.channel_laws.specs.channel_model.specs.Value.{Answer, Setup, Stage, Requested, Connected, Leaving, Closing, Crossed, Held, Channels}
use Rattle.channel_laws.specs.channel_model.proofs.Walking.{found-own}
use Rattle.channel_laws.specs.Belonging.{IsReadAs, IsRead}
use Rattle.channel_laws.specs.Ends.{end_at}
use Rattle.channel_laws.specs.Pairs.{End, Pair, new_pair, Happening, Acts, Puts, Takes, Repeats, Loses, Damages, is_alone, occurs, with_near, puts, let_go, takes_first, repeats_first, loses_first, damages_first, happens_near, Side, Near, Far, turned, Turn, pair_after, pair_of}
use Rattle.channel_laws.specs.Runs.{Occurrence, Comes, Connects, AsksFeatures, Disconnects, Sends, Gives, Fires, Tells, value_after}
use Rattle.channel_laws.specs.Signals.{StandsIn}
use Rattle.channel_laws.proofs.Lingering.{Lingers, Has, FoundHas, SomeHas, has-found, setup-has, set-up, accepted, third, request-has, connection-has, disconnection-has, grant-has, response-has, end-has, features-has, takes-has, connects-has, asks-has, disconnects-has, sends-has, gives-has, times-has}
use Rattle.channel_laws.proofs.Pairing.{each-end_runs}
use Rattle.channel_laws.proofs.Replying.{is_response}
use Rattle.disconnection_laws.proofs.Ending.{BringsNone}
use Rattle.disconnection_laws.proofs.Meeting.{alone_brings}
use Rattle.configuration_laws.proofs.Asking.{IsAsked, Brings, given-is, given-plain}
use Rattle.configuration_laws.proofs.Keeping.{IsPlain, one-more}
use Rattle.configuration_laws.proofs.Leaving.{answers-respond}
use Rattle.lateness_laws.specs.Late.{NoPartWaits}

-- ---- no part waits

abbrev IsWhole : (psm own : ℕ) → Setup → Type 0
IsWhole psm own setup = setup.parts ≡ no_options

lingers_whole : Lingers IsWhole
lingers_whole = record { new = λ psm own. refl; same = λ psm own before after parts agreement whole. parts ∙ whole }

abbrev AreWhole : Channels → Type 0
AreWhole v = Has IsWhole lingers_whole v

-- ---- a request for options that is whole

module _ (policy : Policy) (flags : ℕ) (octets : List ℕ) (even : eqb (flags % 2) 1 ≡ false) where
  -- what follows from a verdict
  abbrev Keeps : Held → Setup → Verdict → Type 0
  Keeps held setup now = (v : Channels) → AreWhole v → AreWhole (follows_verdict now (policy.wish held.psm) held setup v)

  refused_third : (held : Held) (setup : Setup) (most : Bool) (v : Channels) → AreWhole v → AreWhole (cond most (closes NoAgreement (with_setup held (refused_setup setup)) (to_setup held (refused_setup setup) v)) (to_setup held (refused_setup setup) v))
  refused_third held setup true v all = third IsWhole lingers_whole held (refused_setup setup) v refl all
  refused_third held setup false v all = set-up IsWhole lingers_whole held (refused_setup setup) v refl all

  follows_whole : (answer : ConfigAnswer) (options : Options) (held : Held) (setup : Setup) (v : Channels) → AreWhole v → AreWhole (follows_answer answer (policy.wish held.psm) options held setup v)
  follows_whole (Accept given) options held setup v all = accepted IsWhole lingers_whole setup.own (policy.wish held.psm) held (accepted_setup (policy.wish held.psm) options setup) v refl all
  follows_whole (Unacceptable refusal given) options held setup v all = refused_third held setup (nat_le 3 (refused_setup setup).refused) v all
  follows_whole Unknown options held setup v all = set-up IsWhole lingers_whole held (without_parts setup) v refl all

  part_keeps : (peer : ℕ) (held : Held) (setup : Setup) (options : Options) (more : Bool) → more ≡ false → Keeps held setup (judged_part more peer (policy.wish held.psm) options)
  part_keeps peer held setup options true is = let never : true ≡ false = is in absurd cc
  part_keeps peer held setup options false is = λ v all. follows_whole (answered (policy.wish held.psm) options) options held setup v all

  read_keeps : (peer : ℕ) (held : Held) (setup now : Setup) (found : Result Options ConfigRefusal) → Keeps held setup (judged_read peer flags (policy.wish held.psm) now found)
  read_keeps peer held setup now (Ok options) = part_keeps peer held setup (joined now.parts options) (eqb (flags % 2) 1) even
  read_keeps peer held setup now (Err refusal) = λ v all. set-up IsWhole lingers_whole held (without_parts setup) v refl all

  setup_keeps : (peer : ℕ) (held : Held) (setup now : Setup) → Keeps held setup (judged_setup peer flags (policy.wish held.psm) now octets)
  setup_keeps peer held setup now = by (is_open now)
    where
      by : (opened : Bool) → Keeps held setup (cond opened (TooLate peer) (judged_read peer flags (policy.wish held.psm) now (options_read octets)))
      by true = λ v all. all
      by false = read_keeps peer held setup now (options_read octets)

  stage_keeps : (held : Held) (setup : Setup) (stage : Stage) → Keeps held setup (judged_stage stage (policy.wish held.psm) flags octets)
  stage_keeps held setup (Requested request) = λ v all. all
  stage_keeps held setup (Connected peer now) = setup_keeps peer held setup now
  stage_keeps held setup (Leaving peer now request) = setup_keeps peer held setup now
  stage_keeps held setup (Closing peer request checked) = λ v all. all
  stage_keeps held setup (Crossed peer request) = λ v all. all

  request_whole : (own : ℕ) (v : Channels) → AreWhole v → AreWhole (follows policy (configuration_request own flags octets) v)
  request_whole own v all = by (held_at own v) refl
    where
      set_up : (held : Held) → find (has_own held.own) v.held ≡ Some held → (found : Option Setup) → AreWhole (follows_setup found policy held flags octets v)
      set_up held at None = all
      set_up held at (Some setup) =
          subst (λ (now : Verdict). AreWhole (follows_verdict now (policy.wish held.psm) held setup v)) (sym (ap (λ h. verdict_on h policy flags octets) at)) (stage_keeps held setup held.stage v all)

      by : (found : Option Held) → held_at own v ≡ found → AreWhole (follows_configuration found policy flags octets v)
      by None at = all
      by (Some held) at = set_up held (found-own own v held at) (setup_of held.stage)

-- ---- whatever happens

abbrev ComesWhole : Content → Type 0
ComesWhole content = (destination flags : ℕ) (options : List ℕ) → content ≡ configuration_request destination flags options → flags ≡ 0

even_of : (flags : ℕ) → flags ≡ 0 → eqb (flags % 2) 1 ≡ false
even_of flags is = ap (λ n. eqb (n % 2) 1) is

content_whole : (policy : Policy) (v : Channels) (identifier : ℕ) (content : Content) → ComesWhole content → AreWhole v → AreWhole (hears_content policy identifier content v)
content_whole policy v identifier (reject reason rest) can now = features-has IsWhole lingers_whole identifier None v now
content_whole policy v identifier (connection_request psm source) can now =
    let c : Content = connection_request psm source in request-has IsWhole lingers_whole kinds.Connection identifier (answer_to policy c v) (follows policy c) v (λ u has. connection-has IsWhole lingers_whole _ psm source u has) now
content_whole policy v identifier (connection_response destination source answer status) can now = grant-has IsWhole lingers_whole (held_at source v) policy identifier destination answer v now
content_whole policy v identifier (configuration_request own flags options) can now =
    let c : Content = configuration_request own flags options in
    request-has IsWhole lingers_whole kinds.Configuration identifier (answer_to policy c v) (follows policy c) v (λ u has. request_whole policy flags options (even_of flags (can own flags options refl)) own u has) now
content_whole policy v identifier (configuration_response source flags answer options) can now =
    response-has IsWhole lingers_whole (held_at source v) policy identifier answer options v (has-found IsWhole lingers_whole (has_own source) v now) now
content_whole policy v identifier (disconnection_request destination source) can now =
    let c : Content = disconnection_request destination source in
    request-has IsWhole lingers_whole kinds.Disconnection identifier (answer_to policy c v) (follows policy c) v (λ u has. disconnection-has IsWhole lingers_whole (held_at destination u) source u has) now
content_whole policy v identifier (disconnection_response destination source) can now = end-has IsWhole lingers_whole (held_at source v) destination v now
content_whole policy v identifier (echo_request octets) can now =
    let c : Content = echo_request octets in request-has IsWhole lingers_whole kinds.Echo identifier (answer_to policy c v) (follows policy c) v (λ u has. has) now
content_whole policy v identifier (echo_response octets) can now = now
content_whole policy v identifier (information_request kind) can now =
    let c : Content = information_request kind in request-has IsWhole lingers_whole kinds.Information identifier (answer_to policy c v) (follows policy c) v (λ u has. has) now
content_whole policy v identifier (information_response kind answer rest) can now = features-has IsWhole lingers_whole identifier (features_in kind answer rest) v now

occurs_whole : (policy : Policy) (more : Occurrence) (v : Channels) → BringsNone more → AreWhole v → AreWhole (value_after policy more v)
occurs_whole policy (Comes pdu) v none all =
    let w : Channels = takes (channel_of pdu) pdu v in
    subst (λ (b : Bool). AreWhole (cond b (hears_commands policy (answers (drop 4 pdu)) v) w)) (sym none) (takes-has IsWhole lingers_whole (channel_of pdu) pdu v all)
occurs_whole policy (Connects psm) v none all = connects-has IsWhole lingers_whole psm v all
occurs_whole policy AsksFeatures v none all = asks-has IsWhole lingers_whole v all
occurs_whole policy (Disconnects own) v none all = disconnects-has IsWhole lingers_whole own v all
occurs_whole policy (Sends own sdu) v none all = sends-has IsWhole lingers_whole own sdu v all
occurs_whole policy (Gives pdu) v none all = gives-has IsWhole lingers_whole v all
occurs_whole policy Fires v none all = times-has IsWhole lingers_whole policy v all
occurs_whole policy Tells v none all = all

-- a PDU is one command, and whole if it asks for options
abbrev IsClear : List ℕ → Type 0
IsClear pdu = IsPlain pdu × ((command : Command) → Brings pdu command → ComesWhole command.content)

abbrev AreClear : List (List ℕ) → Type 0
AreClear coming = (pdu : List ℕ) → StandsIn pdu coming → IsClear pdu

comes_whole : (policy : Policy) (pdu : List ℕ) (v : Channels) → IsClear pdu → AreWhole v → AreWhole (value_after policy (Comes pdu) v)
comes_whole policy pdu v (plain, whole) all = by (eqb (channel_of pdu) 0x0001) refl
  where
    by : (signals : Bool) → eqb (channel_of pdu) 0x0001 ≡ signals → AreWhole (value_after policy (Comes pdu) v)
    by false is = occurs_whole policy (Comes pdu) v is all
    by true is =
        let (command, read) = plain is in
        subst (λ (b : Bool). AreWhole (cond b (hears_commands policy (answers (drop 4 pdu)) v) (takes (channel_of pdu) pdu v))) (sym is)
        (subst (λ list. AreWhole (hears_commands policy list v)) (sym read) (content_whole policy v command.identifier command.content (whole command (is, read)) all))

-- what is given is clear
given_clear : (v : Channels) → ((command : Command) → StandsIn (Answer command) v.queue → is_response command.content ≡ true) → (given : Given) (pdu : List ℕ) → next_given v ≡ Some given → IsReadAs (Some given) pdu → IsClear pdu
given_clear v responses given pdu is read = (given-plain given pdu read, whole)
  where
    whole : (command : Command) → Brings pdu command → ComesWhole command.content
    whole command brings destination flags options content = either (given-is v given pdu is read command brings)
      where
        either : StandsIn (Answer command) v.queue ⊎ IsAsked v command → flags ≡ 0
        either (inl answer) = let never : false ≡ true = sym (ap is_response content) ∙ responses command answer in absurd cc
        either (inr asked) =
            let (own, asks) = asked.wish (destination, flags, options, content) in
            let same : configuration_request asks.asking.peer 0 (written asks.asking.options) ≡ configuration_request destination flags options = sym asks.asking.content_is ∙ content in cc

-- ---- both ends

abbrev Fine : End → Type 0
Fine end' = AreClear end'.coming × AreWhole end'.run.value

abbrev Both : Pair → Type 0
Both pair = Fine pair.near × Fine pair.far

rest_clear : (pdu : List ℕ) (rest list : List (List ℕ)) → list ≡ pdu ∷ rest → AreClear list → AreClear rest
rest_clear pdu rest list is clear other stands = clear other (subst (StandsIn other) (sym is) (inr stands))

first_clear : (pdu : List ℕ) (rest list : List (List ℕ)) → list ≡ pdu ∷ rest → AreClear list → IsClear pdu
first_clear pdu rest list is clear = clear pdu (subst (StandsIn pdu) (sym is) (inl refl))

module _ (pair : Pair) (responses : (command : Command) → StandsIn (Answer command) pair.near.run.value.queue → is_response command.content ≡ true) where
  abbrev mine : Channels
  mine = pair.near.run.value

  one_turn : (happening : Happening) → IsRead happening pair.near → Both pair → Both (happens_near happening pair)
  one_turn (Acts more) read ((clear, whole), far) = by (is_alone more) refl
    where
      by : (alone : Bool) → is_alone more ≡ alone → Both (cond alone (with_near (occurs more pair.near) pair) pair)
      by true alone = ((clear, occurs_whole pair.near.policy more mine (alone_brings more alone) whole), far)
      by false alone = ((clear, whole), far)
  one_turn (Puts pdu) read ((clear, whole), (far_clear, far_whole)) = by (next_given mine) refl read
    where
      by : (given : Option Given) → next_given mine ≡ given → IsReadAs given pdu → Both (puts given pdu pair)
      by None is read = ((clear, whole), (far_clear, far_whole))
      by (Some given) is read = ((clear, occurs_whole pair.near.policy (Gives pdu) mine tt whole), (one-more IsClear pair.far.coming pdu (given_clear mine responses given pdu is read) far_clear, far_whole))
  one_turn Takes read ((clear, whole), far) = by pair.near.coming refl
    where
      by : (coming : List (List ℕ)) → pair.near.coming ≡ coming → Both (with_near (takes_first coming pair.near) pair)
      by [] is = ((clear, whole), far)
      by (pdu ∷ rest) is = ((rest_clear pdu rest pair.near.coming is clear, comes_whole pair.near.policy pdu mine (first_clear pdu rest pair.near.coming is clear) whole), far)
  one_turn Repeats read ((clear, whole), far) = by pair.near.coming refl
    where
      by : (coming : List (List ℕ)) → pair.near.coming ≡ coming → Both (with_near (repeats_first coming pair.near) pair)
      by [] is = ((clear, whole), far)
      by (pdu ∷ rest) is = ((clear, comes_whole pair.near.policy pdu mine (first_clear pdu rest pair.near.coming is clear) whole), far)
  one_turn Loses read ((clear, whole), far) = by pair.near.coming refl
    where
      by : (coming : List (List ℕ)) → pair.near.coming ≡ coming → Both (with_near (loses_first coming pair.near) pair)
      by [] is = ((clear, whole), far)
      by (pdu ∷ rest) is = ((rest_clear pdu rest pair.near.coming is clear, whole), far)
  one_turn (Damages other) read ((clear, whole), far) = by pair.near.coming refl
    where
      by : (coming : List (List ℕ)) → pair.near.coming ≡ coming → Both (with_near (damages_first other coming pair.near) pair)
      by [] is = ((clear, whole), far)
      by (pdu ∷ rest) is = at (has_fcs (channel_of pdu) mine)
        where
          left : AreClear rest
          left = rest_clear pdu rest pair.near.coming is clear

          at : (checked : Bool) → Both (with_near (cond checked (occurs (Comes other) (let_go rest pair.near)) (let_go rest pair.near)) pair)
          at true = ((left, occurs_whole pair.near.policy (Comes other) mine read whole), far)
          at false = ((left, whole), far)

-- ---- all turns

abbrev ReadBehind : (near far : Policy) → List Turn → Turn → Type 0
ReadBehind near far front turn = IsRead turn.happening (end_at turn.side (pair_of near far front))

next_turn : (near far : Policy) (past : List Turn) (at : Side) (happening : Happening) → (let turn : Turn = record { side = at; happening = happening } in ReadBehind near far past turn → Both (pair_of near far past) → Both (pair_after (pair_of near far past) turn))
next_turn near far past Near happening read both = let pair : Pair = pair_of near far past in one_turn pair (answers-respond near pair.near.run (each-end_runs near far past).0) happening read both
next_turn near far past Far happening read both =
    let pair : Pair = turned (pair_of near far past) in
    let after = one_turn pair (answers-respond far pair.near.run (each-end_runs near far past).1) happening read (both.1, both.0) in (after.1, after.0)

all_fine : (near far : Policy) (past turns : List Turn) → EachAfter (ReadBehind near far) past turns → Both (pair_of near far past) → Both (pair_of near far (past ++ turns))
all_fine near far past [] read both = subst (λ (list : List Turn). Both (pair_of near far list)) (sym (append-nil past)) both
all_fine near far past (turn ∷ turns) (is, read) both =
    let next_is : pair_of near far (past ++ turn ∷ []) ≡ pair_after (pair_of near far past) turn = fold-append pair_after (new_pair near far) past (turn ∷ []) in
    subst (λ (list : List Turn). Both (pair_of near far list)) (append_assoc past (turn ∷ []) turns)
    (all_fine near far (past ++ turn ∷ []) turns read (subst Both (sym next_is) (next_turn near far past turn.side turn.happening is both)))

whole_at : (v : Channels) → AreWhole v → (own : ℕ) (held : Held) (setup : Setup) → held_at own v ≡ Some held → setup_of held.stage ≡ Some setup → setup.parts ≡ no_options
whole_at v all own held setup found has =
    subst (SomeHas IsWhole lingers_whole held.psm held.own) has
    (setup-has IsWhole lingers_whole held.psm held.own held.stage (subst (FoundHas IsWhole lingers_whole) found (has-found IsWhole lingers_whole (has_own own) v all)))

pub no-part_waits : NoPartWaits
no-part_waits near far turns read side = whole_at (end_at side (pair_of near far turns)).run.value (of side)
  where
    none_yet : AreClear []
    none_yet pdu none = elim none [ ]

    both : Both (pair_of near far turns)
    both = all_fine near far [] turns read ((none_yet, tt), (none_yet, tt))

    of : (which : Side) → AreWhole (end_at which (pair_of near far turns)).run.value
    of Near = both.0.1
    of Far = both.1.1
