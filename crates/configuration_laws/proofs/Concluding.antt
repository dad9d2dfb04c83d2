-- What a host answers to requests for options that it knows can be read, and says that no other response follows.
use Rattle.std.proofs.Common.{◌≡◌, ℕ, List, [], ◌∷◌, ◌++◌, Bool, true, false, cond, eqb, ◌%◌, Option, Some, None, Result, Ok, refl, sym, ap, subst, ◌∙◌}
use Rattle.std.specs.Prelude.{find, nat_le}
use Rattle.std.specs.List.{AllByRecursion}
use Rattle.channel_laws.specs.l2cap_signal.specs.Commands.{Content, Command, reject, connection_request, connection_response, configuration_request, configuration_response, disconnection_request, disconnection_response, echo_request, echo_response, information_request, information_response}
use Rattle.channel_laws.specs.l2cap_config.specs.declared.agreement.ConfigAnswer.{ConfigAnswer}
use Rattle.channel_laws.specs.l2cap_config.specs.declared.agreement.ConfigAnswer.TheVariants.{Accept, Unacceptable, Unknown}
use Rattle.channel_laws.specs.l2cap_config.specs.declared.options.ConfigRefusal.{ConfigRefusal}
use Rattle.channel_laws.specs.l2cap_config.specs.declared.options.Options.{Options}
use Rattle.channel_laws.specs.l2cap_config.specs.declared.wish.Wish.{Wish}
use Rattle.channel_laws.specs.l2cap_config.specs.Agreement.{answered}
use Rattle.channel_laws.specs.l2cap_config.specs.Items.{joined}
use Rattle.channel_laws.specs.l2cap_config.specs.Reading.{options_read}
use Rattle.channel_laws.specs.l2cap_config.specs.Types.{joined_types}
use Rattle.channel_laws.specs.link_talk.specs.Channels.{Reading}
use Rattle.channel_laws.specs.channel_model.specs.declared.request_kind.RequestKind.TheVariants as kinds
use Rattle.channel_laws.specs.channel_model.specs.Answers.{judged_answer, configuration_answer, answer_to}
use Rattle.channel_laws.specs.channel_model.specs.Changing.{has_own, held_at, setup_of, is_open, with_setup, to_setup}
use Rattle.channel_laws.specs.channel_model.specs.Closing.{closes}
use Rattle.channel_laws.specs.channel_model.specs.declared.event.CloseReason.TheVariants.{NoAgreement}
use Rattle.channel_laws.specs.channel_model.specs.Configuring.{Verdict, TooLate, judged_part, judged_read, judged_setup, judged_stage, verdict_on, accepted_setup, without_parts, refused_setup, follows_answer, follows_verdict}
use Rattle.channel_laws.specs.channel_model.specs.Following.{follows, follows_setup, follows_configuration}
use Rattle.channel_laws.specs.channel_model.specs.Hearing.{hears_content, hears_command}
use Rattle.channel_laws.specs.channel_model.specs.Policies.{Policy}
use Rattle.channel_laws.specs.channel_model.specs.Responses.{features_in}
use Rattle.channel_laws.specs.channel_model.specs.Value.{Setup, Stage, Requested, Connected, Leaving, Closing, Crossed, Held, Remembered, Channels}
use Rattle.channel_laws.specs.channel_model.proofs.Walking.{found-own}
use Rattle.channel_laws.specs.OwnTalk.{command_with}
use Rattle.channel_laws.proofs.Lasting.{answers_of}
use Rattle.channel_laws.proofs.Lingering.{Lingers, Has, FoundHas, SomeHas, has-found, setup-has, set-up, accepted, third, request-has, connection-has, disconnection-has, grant-has, response-has, end-has, features-has}
use Rattle.channel_laws.proofs.Mild.{is_about_options}
use Rattle.channel_laws.proofs.Sound.{Sound}
use Rattle.configuration_laws.proofs.Readable.{IsRead, nothing-read, written-read}
use Rattle.configuration_laws.proofs.Hearing.{answer_now, Heard, Quiet, Other, Again, Anew, heard}

-- ---- a response to a request for options

-- its options can be read, and it does not say that another one follows
abbrev pub IsConclusive : Content → Type 0
IsConclusive (reject reason rest) = Unit {0}
IsConclusive (connection_request psm source) = Unit {0}
IsConclusive (connection_response destination source answer status) = Unit {0}
IsConclusive (configuration_request destination flags options) = Unit {0}
IsConclusive (configuration_response source flags answer options) = (eqb answer 4 ≡ false) × IsRead options
IsConclusive (disconnection_request destination source) = Unit {0}
IsConclusive (disconnection_response destination source) = Unit {0}
IsConclusive (echo_request octets) = Unit {0}
IsConclusive (echo_response octets) = Unit {0}
IsConclusive (information_request kind) = Unit {0}
IsConclusive (information_response kind answer rest) = Unit {0}

pub other-concludes : (content : Content) → is_about_options content ≡ false → IsConclusive content
other-concludes (reject reason rest) is = tt
other-concludes (connection_request psm source) is = tt
other-concludes (connection_response destination source answer status) is = tt
other-concludes (configuration_request destination flags options) is = tt
other-concludes (configuration_response source flags answer options) is = cc
other-concludes (disconnection_request destination source) is = tt
other-concludes (disconnection_response destination source) is = tt
other-concludes (echo_request octets) is = tt
other-concludes (echo_response octets) is = tt
other-concludes (information_request kind) is = tt
other-concludes (information_response kind answer rest) is = tt

judged_concludes : (answer : ConfigAnswer) (peer : ℕ) (options : Options) → options.unknown ≡ [] → IsConclusive (judged_answer answer peer options)
judged_concludes (Accept given) peer options known = (refl, written-read given)
judged_concludes (Unacceptable refusal given) peer options known = (refl, written-read given)
judged_concludes Unknown peer options known = (refl, subst IsRead (sym known) nothing-read)

-- ---- the parts of options so far

-- none of them is unknown
abbrev pub IsKnown : (psm own : ℕ) → Setup → Type 0
IsKnown psm own setup = setup.parts.unknown ≡ []

pub lingers-known : Lingers IsKnown
lingers-known = record { new = λ psm own. refl; same = λ psm own before after parts agreement known. ap (λ (o : Options). o.unknown) parts ∙ known }

abbrev pub AreKnown : Channels → Type 0
AreKnown v = Has IsKnown lingers-known v

joined_known : (earlier later : Options) → earlier.unknown ≡ [] → later.unknown ≡ [] → (joined earlier later).unknown ≡ []
joined_known earlier later one other = ap (λ (types : List ℕ). joined_types types later.unknown) one ∙ ap (joined_types []) other

-- ---- a request for options that can be read

module _ (policy : Policy) (flags : ℕ) (octets : List ℕ) (can : IsRead octets) where
  -- its verdict, on a channel whose parts are known, and what follows from it
  abbrev Fares : Held → Setup → Verdict → Type 0
  Fares held setup now = ((own : ℕ) → IsConclusive (configuration_answer now own)) × ((v : Channels) → AreKnown v → AreKnown (follows_verdict now (policy.wish held.psm) held setup v))

  refused_third : (held : Held) (setup : Setup) (most : Bool) (v : Channels) → AreKnown v → AreKnown (cond most (closes NoAgreement (with_setup held (refused_setup setup)) (to_setup held (refused_setup setup) v)) (to_setup held (refused_setup setup) v))
  refused_third held setup true v all = third IsKnown lingers-known held (refused_setup setup) v refl all
  refused_third held setup false v all = set-up IsKnown lingers-known held (refused_setup setup) v refl all

  follows_known : (answer : ConfigAnswer) (options : Options) (held : Held) (setup : Setup) (v : Channels) → AreKnown v → AreKnown (follows_answer answer (policy.wish held.psm) options held setup v)
  follows_known (Accept given) options held setup v all = accepted IsKnown lingers-known setup.own (policy.wish held.psm) held (accepted_setup (policy.wish held.psm) options setup) v refl all
  follows_known (Unacceptable refusal given) options held setup v all = refused_third held setup (nat_le 3 (refused_setup setup).refused) v all
  follows_known Unknown options held setup v all = set-up IsKnown lingers-known held (without_parts setup) v refl all

  part_fares : (peer : ℕ) (held : Held) (setup : Setup) (options : Options) → options.unknown ≡ [] → (more : Bool) → Fares held setup (judged_part more peer (policy.wish held.psm) options)
  part_fares peer held setup options known true = ((λ own. (refl, nothing-read)), λ v all. set-up IsKnown lingers-known held (record setup { parts = options }) v known all)
  part_fares peer held setup options known false =
      ((λ own. judged_concludes (answered (policy.wish held.psm) options) peer options known), λ v all. follows_known (answered (policy.wish held.psm) options) options held setup v all)

  setup_fares : (peer : ℕ) (held : Held) (setup : Setup) → setup.parts.unknown ≡ [] → Fares held setup (judged_setup peer flags (policy.wish held.psm) setup octets)
  setup_fares peer held setup known = by (is_open setup)
    where
      read : Fares held setup (judged_read peer flags (policy.wish held.psm) setup (options_read octets))
      read =
          subst (λ (found : Result Options ConfigRefusal). Fares held setup (judged_read peer flags (policy.wish held.psm) setup found)) (sym can.read_is)
          (part_fares peer held setup (joined setup.parts can.options) (joined_known setup.parts can.options known can.known) (eqb (flags % 2) 1))

      by : (opened : Bool) → Fares held setup (cond opened (TooLate peer) (judged_read peer flags (policy.wish held.psm) setup (options_read octets)))
      by true = ((λ own. (refl, nothing-read)), λ v all. all)
      by false = read

  stage_fares : (held : Held) (setup : Setup) (stage : Stage) → setup_of stage ≡ Some setup → setup.parts.unknown ≡ [] → Fares held setup (judged_stage stage (policy.wish held.psm) flags octets)
  stage_fares held setup (Requested request) is known = cc
  stage_fares held setup (Connected peer s) is known =
      let same : s ≡ setup = cc in subst (λ (x : Setup). Fares held setup (judged_setup peer flags (policy.wish held.psm) x octets)) (sym same) (setup_fares peer held setup known)
  stage_fares held setup (Leaving peer s request) is known =
      let same : s ≡ setup = cc in subst (λ (x : Setup). Fares held setup (judged_setup peer flags (policy.wish held.psm) x octets)) (sym same) (setup_fares peer held setup known)
  stage_fares held setup (Closing peer request checked) is known = cc
  stage_fares held setup (Crossed peer request) is known = cc

  -- of a channel without options the verdict looks at none
  bare_concludes : (wish : Wish) (stage : Stage) (own : ℕ) → setup_of stage ≡ None → IsConclusive (configuration_answer (judged_stage stage wish flags octets) own)
  bare_concludes wish (Requested request) own is = tt
  bare_concludes wish (Connected peer setup) own is = cc
  bare_concludes wish (Leaving peer setup request) own is = cc
  bare_concludes wish (Closing peer request checked) own is = (refl, nothing-read)
  bare_concludes wish (Crossed peer request) own is = (refl, nothing-read)

  answer_concludes : (own : ℕ) (v : Channels) → AreKnown v → IsConclusive (answer_now policy own flags octets v)
  answer_concludes own v all = by (held_at own v) (has-found IsKnown lingers-known (has_own own) v all)
    where
      staged : (held : Held) (found : Option Setup) → setup_of held.stage ≡ found → SomeHas IsKnown lingers-known held.psm held.own found → IsConclusive (configuration_answer (judged_stage held.stage (policy.wish held.psm) flags octets) own)
      staged held None is known = bare_concludes (policy.wish held.psm) held.stage own is
      staged held (Some setup) is known = (stage_fares held setup held.stage is known).0 own

      by : (found : Option Held) → FoundHas IsKnown lingers-known found → IsConclusive (configuration_answer (verdict_on found policy flags octets) own)
      by None has = tt
      by (Some held) has = staged held (setup_of held.stage) refl (setup-has IsKnown lingers-known held.psm held.own held.stage has)

  request_known : (own : ℕ) (v : Channels) → AreKnown v → AreKnown (follows policy (configuration_request own flags octets) v)
  request_known own v all = by (held_at own v) refl (has-found IsKnown lingers-known (has_own own) v all)
    where
      set_up : (held : Held) → find (has_own held.own) v.held ≡ Some held → (found : Option Setup) → setup_of held.stage ≡ found → SomeHas IsKnown lingers-known held.psm held.own found → AreKnown (follows_setup found policy held flags octets v)
      set_up held at None is known = all
      set_up held at (Some setup) is known =
          subst (λ (now : Verdict). AreKnown (follows_verdict now (policy.wish held.psm) held setup v)) (sym (ap (λ h. verdict_on h policy flags octets) at)) ((stage_fares held setup held.stage is known).1 v all)

      by : (found : Option Held) → held_at own v ≡ found → FoundHas IsKnown lingers-known found → AreKnown (follows_configuration found policy flags octets v)
      by None at has = all
      by (Some held) at has = set_up held (found-own own v held at) (setup_of held.stage) refl (setup-has IsKnown lingers-known held.psm held.own held.stage has)

-- ---- all that a host holds

abbrev Concludes : Option Content → Type 0
Concludes None = Unit {0}
Concludes (Some content) = IsConclusive content

abbrev pub LastConcludes : Option Remembered → Type 0
LastConcludes None = Unit {0}
LastConcludes (Some last) = Concludes last.response

pub record Concluded (v : Channels) : Type 0 where
  pub answers : AllByRecursion (λ (command : Command). IsConclusive command.content) (answers_of v.queue)
  pub last : LastConcludes v.memory.configuration
  pub known : AreKnown v

-- a request for options has options that can be read
abbrev pub CanRead : Content → Type 0
CanRead content = (destination flags : ℕ) (options : List ℕ) → content ≡ configuration_request destination flags options → IsRead options

one_more : (list : List Command) (command : Command) → AllByRecursion (λ (c : Command). IsConclusive c.content) list → IsConclusive command.content → AllByRecursion (λ (c : Command). IsConclusive c.content) (list ++ command ∷ [])
one_more [] command all one = (one, tt)
one_more (first ∷ list) command all one = (all.0, one_more list command all.1 one)

some_content : (response : Option Content) (answer : Content) → response ≡ Some answer → Concludes response → IsConclusive answer
some_content None answer is holds = cc
some_content (Some other) answer is holds = let same : other ≡ answer = cc in subst IsConclusive same holds

pub lasts-concluded : (v w : Channels) → w.memory ≡ v.memory → answers_of w.queue ≡ answers_of v.queue → AreKnown w → Concluded v → Concluded w
lasts-concluded v w memory queue known holds = record {
  answers = subst (AllByRecursion (λ (c : Command). IsConclusive c.content)) (sym queue) holds.answers;
  last = subst (λ m. LastConcludes m.configuration) (sym memory) holds.last;
  known = known;
}

content_known : (policy : Policy) (v : Channels) (identifier : ℕ) (content : Content) → CanRead content → AreKnown v → AreKnown (hears_content policy identifier content v)
content_known policy v identifier (reject reason rest) can now = features-has IsKnown lingers-known identifier None v now
content_known policy v identifier (connection_request psm source) can now =
    let c : Content = connection_request psm source in request-has IsKnown lingers-known kinds.Connection identifier (answer_to policy c v) (follows policy c) v (λ u has. connection-has IsKnown lingers-known _ psm source u has) now
content_known policy v identifier (connection_response destination source answer status) can now = grant-has IsKnown lingers-known (held_at source v) policy identifier destination answer v now
content_known policy v identifier (configuration_request own flags options) can now =
    let c : Content = configuration_request own flags options in request-has IsKnown lingers-known kinds.Configuration identifier (answer_to policy c v) (follows policy c) v (λ u has. request_known policy flags options (can own flags options refl) own u has) now
content_known policy v identifier (configuration_response source flags answer options) can now =
    response-has IsKnown lingers-known (held_at source v) policy identifier answer options v (has-found IsKnown lingers-known (has_own source) v now) now
content_known policy v identifier (disconnection_request destination source) can now =
    let c : Content = disconnection_request destination source in request-has IsKnown lingers-known kinds.Disconnection identifier (answer_to policy c v) (follows policy c) v (λ u has. disconnection-has IsKnown lingers-known (held_at destination u) source u has) now
content_known policy v identifier (disconnection_response destination source) can now = end-has IsKnown lingers-known (held_at source v) destination v now
content_known policy v identifier (echo_request octets) can now =
    let c : Content = echo_request octets in request-has IsKnown lingers-known kinds.Echo identifier (answer_to policy c v) (follows policy c) v (λ u has. has) now
content_known policy v identifier (echo_response octets) can now = now
content_known policy v identifier (information_request kind) can now =
    let c : Content = information_request kind in request-has IsKnown lingers-known kinds.Information identifier (answer_to policy c v) (follows policy c) v (λ u has. has) now
content_known policy v identifier (information_response kind answer rest) can now = features-has IsKnown lingers-known identifier (features_in kind answer rest) v now

-- a command comes in
pub hears-concluded : (policy : Policy) (r : Reading) (v : Channels) → Sound policy r v → (command : Command) → CanRead command.content → Concluded v → Concluded (hears_command policy (Ok command) v)
hears-concluded policy r v sound command can holds = by (heard policy r v sound command.identifier command.content)
  where
    w : Channels
    w = hears_command policy (Ok command) v

    known : AreKnown w
    known = content_known policy v command.identifier command.content can holds.known

    kept : w.memory.configuration ≡ v.memory.configuration → LastConcludes w.memory.configuration
    kept same = subst LastConcludes (sym same) holds.last

    -- one answer more waits
    more : (answer : Content) → answers_of w.queue ≡ answers_of v.queue ++ command_with command.identifier answer ∷ [] → IsConclusive answer → LastConcludes w.memory.configuration → Concluded w
    more answer queue so last = record {
      answers = subst (AllByRecursion (λ (c : Command). IsConclusive c.content)) (sym queue) (one_more (answers_of v.queue) (command_with command.identifier answer) holds.answers so);
      last = last;
      known = known;
    }

    by : Heard policy v w command.identifier command.content → Concluded w
    by (Quiet same queue) = record { answers = subst (AllByRecursion (λ (c : Command). IsConclusive c.content)) (sym queue) holds.answers; last = kept same; known = known }
    by (Other same answer none queue) = more answer queue (other-concludes answer none) (kept same)
    by (Again same last at answer is queue) = more answer queue (some_content last.response answer is (subst LastConcludes at holds.last)) (kept same)
    by (Anew destination flags options asks memory queue) =
        let so = answer_concludes policy flags options (can destination flags options asks) destination v holds.known in
        more (answer_now policy destination flags options v) queue so (subst LastConcludes (sym memory) so)
