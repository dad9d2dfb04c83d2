-- A response to a request of another kind is none to a request for options.
use Rattle.std.proofs.Common.{◌≡◌, ℕ, List, [], ◌∷◌, Bool, true, false, cond, eqb, Option, Some, None, refl, ap, subst, ◌∙◌}
use Rattle.talk_laws.specs.capture.specs.declared.flow.Flow.TheVariants.{Out, Into}
use Rattle.talk_laws.specs.l2cap_signal.specs.Commands.{Content, reject, connection_request, connection_response, configuration_request, configuration_response, disconnection_request, disconnection_response, echo_request, echo_response, information_request, information_response}
use Rattle.talk_laws.specs.link_talk.specs.Senses.{Quiet}
use Rattle.talk_laws.specs.link_talk.specs.Channels.{fresh, Reading}
use Rattle.channel_model.specs.declared.request_kind.RequestKind.TheVariants as kinds
use Rattle.channel_model.specs.Value.{Stage, Requested, Connected, Leaving, Closing, Crossed, Held, Remembered, Channels}
use Rattle.channel_model.specs.Policies.{Policy}
use Rattle.channel_model.specs.Answers.{remembered}
use Rattle.own_channel_laws.specs.OwnTalk.{response_by}
use Rattle.own_channel_laws.proofs.Sound.{Sound}
use Rattle.std.specs.Prelude.{filter}
use Rattle.talk_laws.specs.link_talk.specs.Requests.{went}
use Rattle.talk_laws.specs.link_talk.specs.Senses.{Opens, OnOptions}
use Rattle.channel_model.specs.declared.request_kind.RequestKind.{RequestKind}
use Rattle.channel_model.specs.Answers.{no_such_channel, disconnection_by, disconnection_answer, information_answer}
use Rattle.own_channel_laws.specs.OwnTalk.{response_as}
use Rattle.own_channel_laws.proofs.Sound.{IsKnown, CallsKept, IsEnded, EndsKept, IsHarmless, HarmlessKept}
use Rattle.own_channel_laws.proofs.Mild.{is_about_options}

about_options : (content : Content) → is_about_options content ≡ true → (peer : ℕ) × (flags : ℕ) × (answer : ℕ) × (options : List ℕ) × (content ≡ configuration_response peer flags answer options)
about_options (reject reason rest) is = cc
about_options (connection_request psm source) is = cc
about_options (connection_response destination source answer status) is = cc
about_options (configuration_request destination flags options) is = cc
about_options (configuration_response source flags answer options) is = (source, flags, answer, options, refl)
about_options (disconnection_request destination source) is = cc
about_options (disconnection_response destination source) is = cc
about_options (echo_request octets) is = cc
about_options (echo_response octets) is = cc
about_options (information_request kind) is = cc
about_options (information_response kind answer rest) is = cc

-- it is no response to a request for options
no_options_of : (content : Content) → ((peer flags answer : ℕ) (options : List ℕ) → content ≡ configuration_response peer flags answer options → ⊥) → is_about_options content ≡ false
no_options_of content never = by (is_about_options content) refl
  where
    by : (b : Bool) → is_about_options content ≡ b → b ≡ false
    by false is = refl
    by true is = let (peer, flags, answer, options, same) = about_options content is in absurd (never peer flags answer options same)

loud : (identifier peer flags answer : ℕ) (options : List ℕ) → Opens Out identifier (OnOptions peer flags answer options) ≡ Quiet → ⊥
loud identifier peer flags answer options is = cc

remembered_plain : (policy : Policy) (r : Reading) (v : Channels) → Sound policy r v → (kind : RequestKind) → (kind ≡ kinds.Configuration → ⊥) → (l : Remembered) → remembered kind v.memory ≡ Some l → (content : Content) → l.response ≡ Some content → is_about_options content ≡ false
remembered_plain policy r v sound kinds.Connection other l at content is = no_options_of content (λ peer flags answer options same.
    subst (IsKnown r.entries) (is ∙ ap Some same) (subst (CallsKept (filter (went Into) r.requests.calls) r.entries) at sound.kept.calls).1)
remembered_plain policy r v sound kinds.Configuration other l at content is = absurd (other refl)
remembered_plain policy r v sound kinds.Disconnection other l at content is = no_options_of content (λ peer flags answer options same. subst (IsEnded r.entries) (is ∙ ap Some same) (subst (EndsKept r.entries) at sound.kept.ends))
remembered_plain policy r v sound kinds.Echo other l at content is = no_options_of content (λ peer flags answer options same.
    let quiet : IsHarmless (Some (configuration_response peer flags answer options)) = subst IsHarmless (is ∙ ap Some same) (subst HarmlessKept at sound.kept.echoes) in loud 0 peer flags answer options (quiet 0))
remembered_plain policy r v sound kinds.Information other l at content is = no_options_of content (λ peer flags answer options same.
    let quiet : IsHarmless (Some (configuration_response peer flags answer options)) = subst IsHarmless (is ∙ ap Some same) (subst HarmlessKept at sound.kept.informations) in loud 0 peer flags answer options (quiet 0))

-- of a kind that is none for options
pub plain_response : (policy : Policy) (r : Reading) (v : Channels) → Sound policy r v → (kind : RequestKind) → (kind ≡ kinds.Configuration → ⊥) → (identifier : ℕ) (fresh : Option Content) → ((content : Content) → fresh ≡ Some content → is_about_options content ≡ false)
    → (content : Content) → response_as kind identifier fresh v ≡ Some content → is_about_options content ≡ false
plain_response policy r v sound kind other identifier fresh plain content = by (remembered kind v.memory) refl
  where
    by : (last : Option Remembered) → remembered kind v.memory ≡ last → response_by last identifier fresh ≡ Some content → is_about_options content ≡ false
    by None at is = plain content is
    by (Some l) at is = on (eqb l.identifier identifier) is
      where
        on : (same : Bool) → cond same l.response fresh ≡ Some content → is_about_options content ≡ false
        on true is = remembered_plain policy r v sound kind other l at content is
        on false is = plain content is

pub some_plain : (one : Content) → is_about_options one ≡ false → (content : Content) → Some one ≡ Some content → is_about_options content ≡ false
some_plain one none content is = let same : one ≡ content = cc in subst (λ c. is_about_options c ≡ false) same none

pub no_plain : (content : Content) → None ≡ Some content → is_about_options content ≡ false
no_plain content is = cc

pub ended_plain : (held : Option Held) (destination source : ℕ) (content : Content) → disconnection_answer held destination source ≡ Some content → is_about_options content ≡ false
ended_plain None destination source content is = some_plain (no_such_channel destination source) refl content is
ended_plain (Some held) destination source content is = by held.stage is
  where
    named : (same : Bool) → cond same (Some (disconnection_response destination source)) None ≡ Some content → is_about_options content ≡ false
    named true is = some_plain (disconnection_response destination source) refl content is
    named false is = no_plain content is

    by : (stage : Stage) → disconnection_by stage destination source ≡ Some content → is_about_options content ≡ false
    by (Requested request) is = some_plain (no_such_channel destination source) refl content is
    by (Connected endpoint setup) is = named (eqb endpoint source) is
    by (Leaving endpoint setup request) is = named (eqb endpoint source) is
    by (Closing endpoint request checked) is = named (eqb endpoint source) is
    by (Crossed endpoint request) is = named (eqb endpoint source) is

pub informed_plain : (kind : ℕ) → is_about_options (information_answer kind) ≡ false
informed_plain kind = by (eqb kind 2) (eqb kind 3)
  where
    by : (two three : Bool) → is_about_options (cond two (information_response kind 0 (0xA8 ∷ 0x00 ∷ 0x00 ∷ 0x00 ∷ [])) (cond three (information_response kind 0 (0x02 ∷ 0x00 ∷ 0x00 ∷ 0x00 ∷ 0x00 ∷ 0x00 ∷ 0x00 ∷ 0x00 ∷ [])) (information_response kind 1 []))) ≡ false
    by true three = refl
    by false true = refl
    by false false = refl
