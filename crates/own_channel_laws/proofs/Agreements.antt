-- While a channel of a host is open its agreement is the one on options that it heard.
use Rattle.std.proofs.Common.{◌≡◌, ℕ, ◌%◌, List, [], ◌∷◌, ◌++◌, map, drop, Bool, true, false, cond, eqb, Option, Some, None, Result, Ok, Err, refl, sym, ap, subst, ◌∙◌, inl, append_assoc, append-nil}
use Rattle.std.specs.Prelude.{find, is_some, nat_le, option_map, option_to_list}
use Rattle.std.specs.List.{AllByRecursion}
use Rattle.std.proofs.lemmas.Grind.{flat_map-append}
use Rattle.talk_laws.specs.acl_fragments.specs.Pieces.{channel_of}
use Rattle.talk_laws.specs.capture.specs.declared.flow.Flow.TheVariants.{Into}
use Rattle.talk_laws.specs.l2cap_signal.specs.Commands.{Content, Command, reject, connection_request, connection_response, configuration_request, configuration_response, disconnection_request, disconnection_response, echo_request, echo_response, information_request, information_response}
use Rattle.talk_laws.specs.l2cap_signal.specs.Reading.{Answer as Read, answers}
use Rattle.talk_laws.specs.l2cap_config.specs.declared.options.Options.{Options}
use Rattle.talk_laws.specs.l2cap_config.specs.declared.options.ConfigRefusal.{ConfigRefusal}
use Rattle.talk_laws.specs.l2cap_config.specs.declared.agreement.ConfigAnswer.{ConfigAnswer}
use Rattle.talk_laws.specs.l2cap_config.specs.declared.agreement.ConfigAnswer.TheVariants.{Accept, Unacceptable, Unknown}
use Rattle.talk_laws.specs.l2cap_config.specs.declared.wish.Agreed.{Agreed}
use Rattle.talk_laws.specs.l2cap_config.specs.declared.wish.Mode.{Mode}
use Rattle.talk_laws.specs.l2cap_config.specs.declared.wish.Mode.TheVariants.{Basic, Enhanced}
use Rattle.talk_laws.specs.l2cap_config.specs.declared.wish.Wish.{Wish}
use Rattle.talk_laws.specs.l2cap_config.specs.Items.{no_options, joined}
use Rattle.talk_laws.specs.l2cap_config.specs.Reading.{options_read}
use Rattle.talk_laws.specs.l2cap_config.specs.Agreement.{answered, agreed_on}
use Rattle.talk_laws.specs.link_talk.specs.declared.channel.Channel.{Channel}
use Rattle.talk_laws.specs.link_talk.specs.Sayings.{Saying, Carried}
use Rattle.talk_laws.specs.link_talk.specs.Sayings as sayings
use Rattle.talk_laws.specs.link_talk.specs.Channels.{Entry, reading}
use Rattle.channel_model.specs.declared.event.CloseReason.TheVariants.{NoAgreement}
use Rattle.channel_model.specs.declared.request_kind.RequestKind.TheVariants as kinds
use Rattle.channel_model.specs.Value.{Carrier, Setup, Stage, Requested, Connected, Leaving, Closing, Crossed, Held, Channels}
use Rattle.channel_model.specs.Policies.{Policy}
use Rattle.channel_model.specs.Changing.{has_own, held_at, is_open, setup_of, with_setup, to_setup}
use Rattle.channel_model.specs.Closing.{closes}
use Rattle.channel_model.specs.Configuring.{TooLate, judged_part, judged_read, judged_setup, judged_stage, verdict_on, bounded_agreement, carrier_by, accepted_setup, without_parts, refused_setup, follows_answer, follows_verdict}
use Rattle.channel_model.specs.Answers.{remembered, answer_to}
use Rattle.channel_model.specs.Following.{follows_setup, follows_configuration, follows, can_say}
use Rattle.channel_model.specs.Responses.{features_in}
use Rattle.channel_model.specs.Hearing.{hears_content, hears_command, hears_commands}
use Rattle.channel_model.specs.Carrying.{takes}
use Rattle.channel_model.specs.Calls.{setup_on, carrier_if, open_carrier}
use Rattle.channel_model.proofs.Lookups.{own_of, found-has}
use Rattle.channel_model.proofs.Walking.{found-own}
use Rattle.own_channel_laws.specs.OwnTalk.{spoken, command_with, response_by, command_if, reply_to, exchanged, asked_between, said_with, said_with_all}
use Rattle.own_channel_laws.specs.Runs.{Occurrence, Comes, Connects, AsksFeatures, Disconnects, Sends, Gives, Fires, Tells, said_in, value_after, Run, run_of}
use Rattle.own_channel_laws.specs.Views.{peer_of, carrier_mode, Agreeing, standing, channel_by, read_at}
use Rattle.own_channel_laws.specs.Endpoints.{IsOf}
use Rattle.own_channel_laws.specs.Signals.{StandsIn}
use Rattle.own_channel_laws.specs.Agreements.{IsHeard, joined_parts, IsOnHeard, agreed_of, AgreementsAreOnHeard}
use Rattle.own_channel_laws.proofs.Sound.{CarrierIs, Agrees, AgreesIf, ReadsBy, Reads}
use Rattle.own_channel_laws.proofs.Granting.{nothing_read}
use Rattle.own_channel_laws.proofs.Agreeing.{read-joined}
use Rattle.own_channel_laws.proofs.Saying.{stands-left, stands-right}
use Rattle.own_channel_laws.proofs.Running.{IsSound, along, all-sound}
use Rattle.own_channel_laws.proofs.Lingering.{agreement_of, Lingers, StageHas, HeldHas, Has, FoundHas, SomeHas, has-found, either, setup-has, set-up, accepted, third, has-also, kind-has, request-has, connection-has, disconnection-has, grant-has, response-has, end-has, features-has, refused-has, takes-has, connects-has, asks-has, disconnects-has, sends-has, gives-has, times-has}

-- ---- what is known of a channel

-- the options so far of a request that comes in parts
pub record ArePartsHeard (own : ℕ) (said : List Saying) (options : Options) : Type 0 where
  pub parts : List (List ℕ)
  pub heard : AllByRecursion (IsHeard own true said) parts
  pub read_is : options_read (joined_parts parts) ≡ Ok options

abbrev pub IsBy : Policy → (psm own : ℕ) → List Saying → Option Agreed → Type 0
IsBy policy psm own said None = Unit {0}
IsBy policy psm own said (Some agreed) = IsOnHeard policy psm own said agreed

pub record Minds (policy : Policy) (said : List Saying) (psm own : ℕ) (setup : Setup) : Type 0 where
  pub parts : ArePartsHeard own said setup.parts
  pub by : IsBy policy psm own said (agreement_of setup)

no_parts_heard : (own : ℕ) (said : List Saying) → ArePartsHeard own said no_options
no_parts_heard own said = record { parts = []; heard = tt; read_is = nothing_read }

pub lingers-minds : (policy : Policy) (said : List Saying) → Lingers (Minds policy said)
lingers-minds policy said = record {
  new = λ psm own. record { parts = no_parts_heard own said; by = tt };
  same = λ psm own before after parts agreement minds. record { parts = subst (ArePartsHeard own said) (sym parts) minds.parts; by = subst (IsBy policy psm own said) (sym agreement) minds.by };
}

-- ---- behind more

heard_later : (own : ℕ) (more : Bool) (said behind : List Saying) (octets : List ℕ) → IsHeard own more said octets → IsHeard own more (said ++ behind) octets
heard_later own more said behind octets heard = record { identifier = heard.identifier; flags = heard.flags; heard = stands-left _ said behind heard.heard; more_is = heard.more_is }

all_later : (own : ℕ) (said behind : List Saying) (parts : List (List ℕ)) → AllByRecursion (IsHeard own true said) parts → AllByRecursion (IsHeard own true (said ++ behind)) parts
all_later own said behind [] all = tt
all_later own said behind (part ∷ parts) (now, all) = (heard_later own true said behind part now, all_later own said behind parts all)

pub on-heard-later : (policy : Policy) (psm own : ℕ) (said behind : List Saying) (agreed : Agreed) → IsOnHeard policy psm own said agreed → IsOnHeard policy psm own (said ++ behind) agreed
on-heard-later policy psm own said behind agreed on = record {
  parts = on.parts;
  last = on.last;
  options = on.options;
  given = on.given;
  parts_heard = all_later own said behind on.parts on.parts_heard;
  last_heard = heard_later own false said behind on.last on.last_heard;
  read_is = on.read_is;
  accepts = on.accepts;
  agreed_is = on.agreed_is;
}

by_later : (policy : Policy) (psm own : ℕ) (said behind : List Saying) (agreed : Option Agreed) → IsBy policy psm own said agreed → IsBy policy psm own (said ++ behind) agreed
by_later policy psm own said behind None by = tt
by_later policy psm own said behind (Some agreed) by = on-heard-later policy psm own said behind agreed by

minds_later : (policy : Policy) (said behind : List Saying) (psm own : ℕ) (setup : Setup) → Minds policy said psm own setup → Minds policy (said ++ behind) psm own setup
minds_later policy said behind psm own setup minds = record {
  parts = record { parts = minds.parts.parts; heard = all_later own said behind minds.parts.parts minds.parts.heard; read_is = minds.parts.read_is };
  by = by_later policy psm own said behind (agreement_of setup) minds.by;
}

abbrev pub AllMind : Policy → List Saying → Channels → Type 0
AllMind policy said v = Has (Minds policy said) (lingers-minds policy said) v

later : (policy : Policy) (said behind : List Saying) (v : Channels) → AllMind policy said v → AllMind policy (said ++ behind) v
later policy said behind v all = has-also (Minds policy said) (lingers-minds policy said) (Minds policy (said ++ behind)) (lingers-minds policy (said ++ behind)) (minds_later policy said behind) v all

-- ---- a request of the peer for options

bare : (policy : Policy) (said : List Saying) (psm own : ℕ) (before after : Setup) → after.parts ≡ no_options → agreement_of after ≡ agreement_of before → Minds policy said psm own before → Minds policy said psm own after
bare policy said psm own before after none same minds = record { parts = subst (ArePartsHeard own said) (sym none) (no_parts_heard own said); by = subst (IsBy policy psm own said) (sym same) minds.by }

all_more : (own : ℕ) (said : List Saying) (parts : List (List ℕ)) (octets : List ℕ) → AllByRecursion (IsHeard own true said) parts → IsHeard own true said octets → AllByRecursion (IsHeard own true said) (parts ++ octets ∷ [])
all_more own said [] octets all now = (now, tt)
all_more own said (part ∷ parts) octets (one, all) now = (one, all_more own said parts octets all now)

joined_more : (parts : List (List ℕ)) (octets : List ℕ) → joined_parts (parts ++ octets ∷ []) ≡ joined_parts parts ++ octets
joined_more parts octets = flat_map-append (λ (part : List ℕ). part) parts (octets ∷ []) ∙ ap (λ l. joined_parts parts ++ l) (append-nil octets)

-- one part more
part_minds : (policy : Policy) (said : List Saying) (psm own : ℕ) (setup : Setup) (octets : List ℕ) (options : Options) → IsHeard own true said octets → options_read octets ≡ Ok options → Minds policy said psm own setup
    → (let after : Setup = record setup { parts = joined setup.parts options } in Minds policy said psm own after)
part_minds policy said psm own setup octets options heard is minds = record {
  parts = record {
    parts = minds.parts.parts ++ octets ∷ [];
    heard = all_more own said minds.parts.parts octets minds.parts.heard heard;
    read_is = ap options_read (joined_more minds.parts.parts octets) ∙ read-joined (joined_parts minds.parts.parts) octets setup.parts options minds.parts.read_is is;
  };
  by = minds.by;
}

carrier_agreed : (mode : Mode) (agreed : Agreed) → option_map agreed_of (Some (carrier_by mode agreed)) ≡ Some agreed
carrier_agreed Basic agreed = refl
carrier_agreed Enhanced agreed = refl

-- the last part, which is acceptable
accepted_minds : (policy : Policy) (said : List Saying) (psm own : ℕ) (setup : Setup) (octets : List ℕ) (options given : Options) → IsHeard own false said octets → options_read octets ≡ Ok options → answered (policy.wish psm) (joined setup.parts options) ≡ Accept given
    → Minds policy said psm own setup → Minds policy said psm own (accepted_setup (policy.wish psm) (joined setup.parts options) setup)
accepted_minds policy said psm own setup octets options given heard is accepts minds =
    let wish : Wish = policy.wish psm in
    let whole : Options = joined setup.parts options in
    record {
      parts = no_parts_heard own said;
      by = subst (IsBy policy psm own said) (sym (carrier_agreed wish.mode (bounded_agreement (agreed_on wish whole)))) (record {
        parts = minds.parts.parts;
        last = octets;
        options = whole;
        given = given;
        parts_heard = minds.parts.heard;
        last_heard = heard;
        read_is = read-joined (joined_parts minds.parts.parts) octets setup.parts options minds.parts.read_is is;
        accepts = accepts;
        agreed_is = refl;
      });
    }

-- a request that stands in what was said
abbrev Stands : List Saying → (identifier own flags : ℕ) → List ℕ → Type 0
Stands said identifier own flags octets = StandsIn (sayings.Command Into (Ok (command_with identifier (configuration_request own flags octets)))) said

module _ (policy : Policy) (said : List Saying) where
  -- what is answered to whole options
  answer_minds : (identifier flags : ℕ) (octets : List ℕ) (options : Options) (held : Held) (setup : Setup) (v : Channels) → Stands said identifier held.own flags octets → eqb (flags % 2) 1 ≡ false → options_read octets ≡ Ok options
      → Minds policy said held.psm held.own setup → AllMind policy said v → (answer : ConfigAnswer) → answered (policy.wish held.psm) (joined setup.parts options) ≡ answer
      → AllMind policy said (follows_answer answer (policy.wish held.psm) (joined setup.parts options) held setup v)
  answer_minds identifier flags octets options held setup v stands last is minds all (Accept given) accepts =
      let wish : Wish = policy.wish held.psm in
      let heard : IsHeard held.own false said octets = record { identifier = identifier; flags = flags; heard = stands; more_is = last } in
      accepted (Minds policy said) (lingers-minds policy said) setup.own wish held (accepted_setup wish (joined setup.parts options) setup) v (accepted_minds policy said held.psm held.own setup octets options given heard is accepts minds) all
  answer_minds identifier flags octets options held setup v stands last is minds all (Unacceptable refusal given) refuses =
      let after : Setup = refused_setup setup in
      let so : Minds policy said held.psm held.own after = bare policy said held.psm held.own setup after refl refl minds in
      either (Minds policy said) (lingers-minds policy said) (nat_le 3 after.refused) (closes NoAgreement (with_setup held after) (to_setup held after v)) (to_setup held after v)
      (third (Minds policy said) (lingers-minds policy said) held after v so all) (set-up (Minds policy said) (lingers-minds policy said) held after v so all)
  answer_minds identifier flags octets options held setup v stands last is minds all Unknown unknown =
      set-up (Minds policy said) (lingers-minds policy said) held (without_parts setup) v (bare policy said held.psm held.own setup (without_parts setup) refl refl minds) all

  part_by : (identifier flags peer : ℕ) (octets : List ℕ) (options : Options) (held : Held) (setup : Setup) (v : Channels) → Stands said identifier held.own flags octets → options_read octets ≡ Ok options → Minds policy said held.psm held.own setup → AllMind policy said v
      → (more : Bool) → eqb (flags % 2) 1 ≡ more → AllMind policy said (follows_verdict (judged_part more peer (policy.wish held.psm) (joined setup.parts options)) (policy.wish held.psm) held setup v)
  part_by identifier flags peer octets options held setup v stands is minds all true more =
      let after : Setup = record setup { parts = joined setup.parts options } in
      let heard : IsHeard held.own true said octets = record { identifier = identifier; flags = flags; heard = stands; more_is = more } in
      set-up (Minds policy said) (lingers-minds policy said) held after v (part_minds policy said held.psm held.own setup octets options heard is minds) all
  part_by identifier flags peer octets options held setup v stands is minds all false last =
      answer_minds identifier flags octets options held setup v stands last is minds all (answered (policy.wish held.psm) (joined setup.parts options)) refl

  read_by : (identifier flags peer : ℕ) (octets : List ℕ) (held : Held) (setup : Setup) (v : Channels) → Stands said identifier held.own flags octets → Minds policy said held.psm held.own setup → AllMind policy said v
      → (found : Result Options ConfigRefusal) → options_read octets ≡ found → AllMind policy said (follows_verdict (judged_read peer flags (policy.wish held.psm) setup found) (policy.wish held.psm) held setup v)
  read_by identifier flags peer octets held setup v stands minds all (Ok options) is = part_by identifier flags peer octets options held setup v stands is minds all (eqb (flags % 2) 1) refl
  read_by identifier flags peer octets held setup v stands minds all (Err refusal) is = set-up (Minds policy said) (lingers-minds policy said) held (without_parts setup) v (bare policy said held.psm held.own setup (without_parts setup) refl refl minds) all

  judged_minds : (identifier flags peer : ℕ) (octets : List ℕ) (held : Held) (setup : Setup) (v : Channels) → Stands said identifier held.own flags octets → Minds policy said held.psm held.own setup → AllMind policy said v
      → AllMind policy said (follows_verdict (judged_setup peer flags (policy.wish held.psm) setup octets) (policy.wish held.psm) held setup v)
  judged_minds identifier flags peer octets held setup v stands minds all = by (is_open setup)
    where
      by : (opened : Bool) → AllMind policy said (follows_verdict (cond opened (TooLate peer) (judged_read peer flags (policy.wish held.psm) setup (options_read octets))) (policy.wish held.psm) held setup v)
      by true = all
      by false = read_by identifier flags peer octets held setup v stands minds all (options_read octets) refl

  stage_minds : (identifier flags : ℕ) (octets : List ℕ) (held : Held) (setup : Setup) (v : Channels) → Stands said identifier held.own flags octets → Minds policy said held.psm held.own setup → AllMind policy said v → (stage : Stage) → setup_of stage ≡ Some setup
      → AllMind policy said (follows_verdict (judged_stage stage (policy.wish held.psm) flags octets) (policy.wish held.psm) held setup v)
  stage_minds identifier flags octets held setup v stands minds all (Requested request) is = cc
  stage_minds identifier flags octets held setup v stands minds all (Connected peer s) is =
      let same : setup ≡ s = cc in
      subst (λ x. AllMind policy said (follows_verdict (judged_setup peer flags (policy.wish held.psm) x octets) (policy.wish held.psm) held setup v)) same (judged_minds identifier flags peer octets held setup v stands minds all)
  stage_minds identifier flags octets held setup v stands minds all (Leaving peer s request) is =
      let same : setup ≡ s = cc in
      subst (λ x. AllMind policy said (follows_verdict (judged_setup peer flags (policy.wish held.psm) x octets) (policy.wish held.psm) held setup v)) same (judged_minds identifier flags peer octets held setup v stands minds all)
  stage_minds identifier flags octets held setup v stands minds all (Closing peer request checked) is = cc
  stage_minds identifier flags octets held setup v stands minds all (Crossed peer request) is = cc

  setup_minds : (identifier flags : ℕ) (octets : List ℕ) (held : Held) (v : Channels) → Stands said identifier held.own flags octets → AllMind policy said v → find (has_own held.own) v.held ≡ Some held → (found : Option Setup) → setup_of held.stage ≡ found
      → SomeHas (Minds policy said) (lingers-minds policy said) held.psm held.own found → AllMind policy said (follows_setup found policy held flags octets v)
  setup_minds identifier flags octets held v stands all at None is minds = all
  setup_minds identifier flags octets held v stands all at (Some setup) is minds =
      subst (λ one. AllMind policy said (follows_verdict one (policy.wish held.psm) held setup v)) (sym (ap (λ h. verdict_on h policy flags octets) at)) (stage_minds identifier flags octets held setup v stands minds all held.stage is)

  configuration_minds : (identifier own flags : ℕ) (octets : List ℕ) (v : Channels) → Stands said identifier own flags octets → AllMind policy said v → AllMind policy said (follows policy (configuration_request own flags octets) v)
  configuration_minds identifier own flags octets v stands all = by (held_at own v) refl (has-found (Minds policy said) (lingers-minds policy said) (has_own own) v all)
    where
      by : (found : Option Held) → held_at own v ≡ found → FoundHas (Minds policy said) (lingers-minds policy said) found → AllMind policy said (follows_configuration found policy flags octets v)
      by None at has = all
      by (Some held) at has =
          setup_minds identifier flags octets held v (subst (λ n. Stands said identifier n flags octets) (sym (found-has own_of own v.held held at)) stands) all (found-own own v held at) (setup_of held.stage) refl
          (setup-has (Minds policy said) (lingers-minds policy said) held.psm held.own held.stage has)

-- ---- the commands of a PDU

-- a request that is new, and for whose answer there is room, is heard
heard_new : (policy : Policy) (past : List Saying) (v : Channels) (identifier own flags : ℕ) (octets : List ℕ) (command : Command) → command.identifier ≡ identifier → command.content ≡ configuration_request own flags octets
    → (let fresh : Option Content = answer_to policy (configuration_request own flags octets) v in response_by (remembered kinds.Configuration v.memory) identifier fresh ≡ fresh → can_say fresh v ≡ true
    → Stands (past ++ said_with policy (Ok command) v) identifier own flags octets)
heard_new policy past v identifier own flags octets command id_is content_is same can =
    subst (λ (c : Command). StandsIn (asked_as) (past ++ said_with policy (Ok c) v)) (sym whole)
    (stands-right asked_as past (said_with policy (Ok it) v) (stands-left asked_as (exchanged (Ok it) (reply_to policy (Ok it) v) v) (asked_between v (hears_command policy (Ok it) v)) now))
  where
    it : Command
    it = command_with identifier (configuration_request own flags octets)

    asked_as : Saying
    asked_as = sayings.Command Into (Ok it)

    whole : command ≡ it
    whole = ap (λ n. command_with n command.content) id_is ∙ ap (command_with identifier) content_is

    fresh : Option Content
    fresh = answer_to policy (configuration_request own flags octets) v

    room : can_say (option_map (λ (c : Command). c.content) (command_if identifier (response_by (remembered kinds.Configuration v.memory) identifier fresh))) v ≡ true
    room = ap (λ r. can_say (option_map (λ (c : Command). c.content) (command_if identifier r)) v) same ∙ can

    now : StandsIn asked_as (exchanged (Ok it) (reply_to policy (Ok it) v) v)
    now = subst (λ b. StandsIn asked_as (cond b (asked_as ∷ map spoken (option_to_list (reply_to policy (Ok it) v))) [])) (sym room) (inl refl)

command_minds : (policy : Policy) (past : List Saying) (v : Channels) (one : Read) → AllMind policy past v → AllMind policy (past ++ said_with policy one v) (hears_command policy one v)
command_minds policy past v one all = by one refl
  where
    said : List Saying
    said = past ++ said_with policy one v

    now : AllMind policy said v
    now = later policy past (said_with policy one v) v all

    M : (psm own : ℕ) → Setup → Type 0
    M = Minds policy said

    l : Lingers M
    l = lingers-minds policy said

    read : (command : Command) → one ≡ Ok command → (content : Content) → command.content ≡ content → AllMind policy said (hears_content policy command.identifier content v)
    read command is (reject reason rest) content_is = features-has M l command.identifier None v now
    read command is (connection_request psm source) content_is =
        request-has M l kinds.Connection command.identifier (answer_to policy (connection_request psm source) v) (follows policy (connection_request psm source)) v (λ u has. connection-has M l _ psm source u has) now
    read command is (connection_response destination source answer status) content_is = grant-has M l (held_at source v) policy command.identifier destination answer v now
    read command is (configuration_request own flags octets) content_is =
        kind-has M l (remembered kinds.Configuration v.memory) kinds.Configuration command.identifier (answer_to policy (configuration_request own flags octets) v) (follows policy (configuration_request own flags octets)) v
        (λ same can u has. configuration_minds policy said command.identifier own flags octets u
        (subst (λ (o : Read). Stands (past ++ said_with policy o v) command.identifier own flags octets) (sym is) (heard_new policy past v command.identifier own flags octets command refl content_is same can)) has) now
    read command is (configuration_response source flags answer options) content_is = response-has M l (held_at source v) policy command.identifier answer options v (has-found M l (has_own source) v now) now
    read command is (disconnection_request destination source) content_is =
        request-has M l kinds.Disconnection command.identifier (answer_to policy (disconnection_request destination source) v) (follows policy (disconnection_request destination source)) v (λ u has. disconnection-has M l (held_at destination u) source u has) now
    read command is (disconnection_response destination source) content_is = end-has M l (held_at source v) destination v now
    read command is (echo_request octets) content_is = request-has M l kinds.Echo command.identifier (answer_to policy (echo_request octets) v) (follows policy (echo_request octets)) v (λ u has. has) now
    read command is (echo_response octets) content_is = now
    read command is (information_request kind) content_is = request-has M l kinds.Information command.identifier (answer_to policy (information_request kind) v) (follows policy (information_request kind)) v (λ u has. has) now
    read command is (information_response kind answer rest) content_is = features-has M l command.identifier (features_in kind answer rest) v now

    by : (found : Read) → one ≡ found → AllMind policy said (hears_command policy found v)
    by (Ok command) is = read command is command.content refl
    by (Err refusal) is = refused-has M l refusal v now

commands_minds : (policy : Policy) (past : List Saying) (v : Channels) (list : List Read) → AllMind policy past v → AllMind policy (past ++ said_with_all policy list v) (hears_commands policy list v)
commands_minds policy past v [] all = later policy past [] v all
commands_minds policy past v (one ∷ list) all =
    let w : Channels = hears_command policy one v in
    subst (λ said. AllMind policy said (hears_commands policy list w)) (append_assoc past (said_with policy one v) (said_with_all policy list w)) (commands_minds policy (past ++ said_with policy one v) w list (command_minds policy past v one all))

-- ---- whatever happens

comes_minds : (policy : Policy) (past : List Saying) (v : Channels) (pdu : List ℕ) (signals : Bool) → AllMind policy past v
    → AllMind policy (past ++ cond signals (said_with_all policy (answers (drop 4 pdu)) v) (Carried Into pdu ∷ asked_between v (takes (channel_of pdu) pdu v))) (cond signals (hears_commands policy (answers (drop 4 pdu)) v) (takes (channel_of pdu) pdu v))
comes_minds policy past v pdu true all = commands_minds policy past v (answers (drop 4 pdu)) all
comes_minds policy past v pdu false all =
    let behind : List Saying = Carried Into pdu ∷ asked_between v (takes (channel_of pdu) pdu v) in
    takes-has (Minds policy (past ++ behind)) (lingers-minds policy (past ++ behind)) (channel_of pdu) pdu v (later policy past behind v all)

occurs_minds : (policy : Policy) (run : Run) (more : Occurrence) → AllMind policy run.said run.value → AllMind policy (run.said ++ said_in policy more run.value) (value_after policy more run.value)
occurs_minds policy run more all = by more refl
  where
    said : List Saying
    said = run.said ++ said_in policy more run.value

    v : Channels
    v = run.value

    now : AllMind policy said v
    now = later policy run.said (said_in policy more run.value) v all

    M : (psm own : ℕ) → Setup → Type 0
    M = Minds policy said

    l : Lingers M
    l = lingers-minds policy said

    by : (one : Occurrence) → more ≡ one → AllMind policy said (value_after policy one v)
    by (Comes pdu) is = subst (λ (o : Occurrence). AllMind policy (run.said ++ said_in policy o v) (value_after policy (Comes pdu) v)) (sym is) (comes_minds policy run.said v pdu (eqb (channel_of pdu) 0x0001) all)
    by (Connects psm) is = connects-has M l psm v now
    by AsksFeatures is = asks-has M l v now
    by (Disconnects own) is = disconnects-has M l own v now
    by (Sends own sdu) is = sends-has M l own sdu v now
    by (Gives pdu) is = gives-has M l v now
    by Fires is = times-has M l policy v now
    by Tells is = now

all_mind : (policy : Policy) (list : List Occurrence) → AllMind policy (run_of policy list).said (run_of policy list).value
all_mind policy list = (along policy (λ run. AllMind policy run.said run.value) tt (λ run more sound all. occurs_minds policy run more all) list).1

-- ---- the law

-- what is read of a channel whose options the host accepted
pub record IsRead (policy : Policy) (said : List Saying) (own : ℕ) (carrier : Carrier) : Type 0 where
  pub channel : Channel
  pub own_is : channel.own ≡ own
  pub entry : Entry
  pub found : read_at own (reading said).entries ≡ Some entry
  pub channel_is : entry.channel ≡ channel
  pub accepted : is_some entry.setup.accepted ≡ true
  pub mode_is : carrier_mode carrier ≡ (policy.wish channel.psm).mode
  pub heard : IsOnHeard policy channel.psm own said (agreed_of carrier)

pub accepted-heard : (policy : Policy) (list : List Occurrence) (own : ℕ) (held : Held) (setup : Setup) (carrier : Carrier) → held_at own (run_of policy list).value ≡ Some held → setup_of held.stage ≡ Some setup → setup.carrier ≡ Some carrier
    → IsRead policy (run_of policy list).said own carrier
accepted-heard policy list own held setup carrier at has carries =
    staged held.stage refl (subst (λ h. Reads policy h found) at (sound.core.reads own)) (subst (FoundHas M (lingers-minds policy run.said)) at (has-found M (lingers-minds policy run.said) (has_own own) run.value (all_mind policy list)))
  where
    run : Run
    run = run_of policy list

    sound : IsSound policy run
    sound = all-sound policy list

    M : (psm own : ℕ) → Setup → Type 0
    M = Minds policy run.said

    found : Option Entry
    found = read_at own (reading run.said).entries

    same_own : held.own ≡ own
    same_own = found-has own_of own run.value.held held at

    talks : (peer : ℕ) (s : Setup) (entry : Option Entry) → found ≡ entry → s ≡ setup → standing held.stage ≡ Agreeing s → ReadsBy policy held (Some peer) entry → Minds policy run.said held.psm held.own s → IsRead policy run.said own carrier
    talks peer s None is same standing_is reads minds = elim reads [ ]
    talks peer s (Some entry) is same standing_is (there, agrees) minds =
        let its : s.carrier ≡ Some carrier = ap (λ (x : Setup). x.carrier) same ∙ carries in
        let agreed : Agrees (policy.wish held.psm) s entry.setup = subst (λ x. AgreesIf (policy.wish held.psm) x entry.setup) standing_is agrees in
        record {
          channel = channel_by held.psm held.own peer;
          own_is = same_own;
          entry = entry;
          found = is;
          channel_is = there.channel_is;
          accepted = ap (λ (m : Option Mode). is_some m) (agreed.set_up.accepted_is ∙ ap (option_map carrier_mode) its);
          mode_is = subst (CarrierIs (policy.wish held.psm)) its agreed.carrier_is;
          heard = subst (λ n. IsOnHeard policy held.psm n run.said (agreed_of carrier)) same_own (subst (IsBy policy held.psm held.own run.said) (ap (option_map agreed_of) its) minds.by);
        }

    staged : (stage : Stage) → held.stage ≡ stage → Reads policy (Some held) found → HeldHas M (lingers-minds policy run.said) held → IsRead policy run.said own carrier
    staged (Requested request) is reads minds = let never : None ≡ Some setup = sym (ap setup_of is) ∙ has in absurd cc
    staged (Connected peer s) is reads minds =
        let whole : Some s ≡ Some setup = sym (ap setup_of is) ∙ has in
        let same : s ≡ setup = cc in
        talks peer s found refl same (ap standing is) (subst (λ (p : Option ℕ). ReadsBy policy held p found) (ap peer_of is) reads) (subst (StageHas M (lingers-minds policy run.said) held.psm held.own) is minds)
    staged (Leaving peer s request) is reads minds =
        let whole : Some s ≡ Some setup = sym (ap setup_of is) ∙ has in
        let same : s ≡ setup = cc in
        talks peer s found refl same (ap standing is) (subst (λ (p : Option ℕ). ReadsBy policy held p found) (ap peer_of is) reads) (subst (StageHas M (lingers-minds policy run.said) held.psm held.own) is minds)
    staged (Closing peer request checked) is reads minds = let never : None ≡ Some setup = sym (ap setup_of is) ∙ has in absurd cc
    staged (Crossed peer request) is reads minds = let never : None ≡ Some setup = sym (ap setup_of is) ∙ has in absurd cc

-- a channel that is open is accepted
carrier_is : (opened : Bool) (setup : Setup) (carrier : Carrier) → carrier_if opened setup ≡ Some carrier → setup.carrier ≡ Some carrier
carrier_is true setup carrier is = is
carrier_is false setup carrier is = cc

pub agreements-are_on_heard : AgreementsAreOnHeard
agreements-are_on_heard policy list own carrier is = by (held_at own (run_of policy list).value) refl is
  where
    read : IsRead policy (run_of policy list).said own carrier → (channel : Channel)
        × IsOf channel (read_at own (reading (run_of policy list).said).entries) × (carrier_mode carrier ≡ (policy.wish channel.psm).mode) × IsOnHeard policy channel.psm own (run_of policy list).said (agreed_of carrier)
    read it = (it.channel, subst (IsOf it.channel) (sym it.found) it.channel_is, it.mode_is, it.heard)

    on : (held : Held) (setup : Option Setup) → held_at own (run_of policy list).value ≡ Some held → setup_of held.stage ≡ setup → open_carrier setup ≡ Some carrier → (channel : Channel)
        × IsOf channel (read_at own (reading (run_of policy list).said).entries) × (carrier_mode carrier ≡ (policy.wish channel.psm).mode) × IsOnHeard policy channel.psm own (run_of policy list).said (agreed_of carrier)
    on held None at has carries = cc
    on held (Some setup) at has carries = read (accepted-heard policy list own held setup carrier at has (carrier_is (is_open setup) setup carrier carries))

    by : (found : Option Held) → held_at own (run_of policy list).value ≡ found → open_carrier (setup_on found) ≡ Some carrier → (channel : Channel)
        × IsOf channel (read_at own (reading (run_of policy list).said).entries) × (carrier_mode carrier ≡ (policy.wish channel.psm).mode) × IsOnHeard policy channel.psm own (run_of policy list).said (agreed_of carrier)
    by None at carries = cc
    by (Some held) at carries = on held (setup_of held.stage) at refl carries
