-- A copy of a request is replied to with a response to it.
use Rattle.std.proofs.Common.{◌≡◌, ℕ, List, [], ◌∷◌, Bool, true, false, cond, eqb, ◌&&◌, Option, Some, None, Result, Ok, Err, refl, sym, ap, subst, ◌∙◌}
use Rattle.std.proofs.lemmas.Bool.{eqb-true}
use Rattle.own_channel_laws.specs.talk_laws.specs.l2cap_signal.specs.Commands.{Content, connection_request, configuration_request, disconnection_request, disconnection_response, information_request, information_response}
use Rattle.own_channel_laws.specs.talk_laws.specs.l2cap_config.specs.declared.agreement.ConfigAnswer.{ConfigAnswer}
use Rattle.own_channel_laws.specs.talk_laws.specs.l2cap_config.specs.declared.agreement.ConfigAnswer.TheVariants.{Accept, Unacceptable, Unknown}
use Rattle.own_channel_laws.specs.talk_laws.specs.l2cap_config.specs.declared.options.Options.{Options}
use Rattle.own_channel_laws.specs.talk_laws.specs.l2cap_config.specs.declared.options.ConfigRefusal.{ConfigRefusal}
use Rattle.own_channel_laws.specs.talk_laws.specs.l2cap_config.specs.declared.wish.Wish.{Wish}
use Rattle.own_channel_laws.specs.talk_laws.specs.l2cap_config.specs.Agreement.{answered}
use Rattle.own_channel_laws.specs.talk_laws.specs.l2cap_config.specs.Items.{joined}
use Rattle.own_channel_laws.specs.talk_laws.specs.l2cap_config.specs.Reading.{options_read}
use Rattle.own_channel_laws.specs.channel_model.specs.declared.errand.Errand.{Errand}
use Rattle.own_channel_laws.specs.channel_model.specs.declared.errand.Errand.TheVariants as errands
use Rattle.own_channel_laws.specs.channel_model.specs.Value.{Setup, Stage, Requested, Connected, Leaving, Closing, Crossed, Held, Remembered, Channels}
use Rattle.own_channel_laws.specs.channel_model.specs.Policies.{Policy}
use Rattle.own_channel_laws.specs.channel_model.specs.Changing.{held_at, is_peer, is_open}
use Rattle.own_channel_laws.specs.channel_model.specs.Answers.{connection_result, connection_answer, judged_answer, configuration_answer, disconnection_by, disconnection_answer, information_answer}
use Rattle.own_channel_laws.specs.channel_model.specs.Configuring.{TooLate, judged_part, judged_read, judged_setup, judged_stage, verdict_on, verdict}
use Rattle.own_channel_laws.specs.channel_model.proofs.Lookups.{eqb-same}
use Rattle.channel_laws.specs.Adverse.{asks_with, responds_with}
use Rattle.channel_laws.specs.Heeded.{IsResponse}
use Rattle.own_channel_laws.specs.OwnTalk.{response_by, response_to, command_if}
use Rattle.channel_laws.specs.Responding.{Recalls, RecalledOr, IsRecalledOr, HasPeer, CanRespond, CopiesHaveResponses}
use Rattle.own_channel_laws.proofs.Both.{and-left, and-right}

-- the answer to a question for information
pub informed : (kind : ℕ) → responds_with errands.Features (information_answer kind) ≡ true
informed kind = by (eqb kind 2) (eqb kind 3)
  where
    by : (two three : Bool) → responds_with errands.Features (cond two (information_response kind 0 (0xA8 ∷ 0x00 ∷ 0x00 ∷ 0x00 ∷ [])) (cond three (information_response kind 0 (0x02 ∷ 0x00 ∷ 0x00 ∷ 0x00 ∷ 0x00 ∷ 0x00 ∷ 0x00 ∷ 0x00 ∷ [])) (information_response kind 1 []))) ≡ true
    by true three = refl
    by false true = refl
    by false false = refl

-- what is recalled, or else the answer
pub recalled : (e : Errand) (last : Option Remembered) (identifier : ℕ) (fresh : Option Content) (F : Type 0) → IsRecalledOr e last identifier F → (F → Recalls e fresh) → Recalls e (response_by last identifier fresh)
recalled e None identifier fresh F so to = to so
recalled e (Some last) identifier fresh F so to = by (eqb last.identifier identifier) so
  where
    by : (same : Bool) → RecalledOr same (Recalls e last.response) F → Recalls e (cond same last.response fresh)
    by true so = so
    by false so = to so

-- ---- options

pub part_names : (own : ℕ) (more : Bool) (wish : Wish) (options : Options) → (destination : ℕ) → responds_with (errands.Configuration own) (configuration_answer (judged_part more own wish options) destination) ≡ true
part_names own true wish options destination = eqb-same own
part_names own false wish options destination = by (answered wish options)
  where
    by : (answer : ConfigAnswer) → responds_with (errands.Configuration own) (judged_answer answer own options) ≡ true
    by (Accept given) = eqb-same own
    by (Unacceptable refusal given) = eqb-same own
    by Unknown = eqb-same own

pub setup_names : (own flags : ℕ) (wish : Wish) (setup : Setup) (octets : List ℕ) (destination : ℕ) → responds_with (errands.Configuration own) (configuration_answer (judged_setup own flags wish setup octets) destination) ≡ true
setup_names own flags wish setup octets destination = by (is_open setup) (options_read octets)
  where
    by : (open' : Bool) (read : Result Options ConfigRefusal) → responds_with (errands.Configuration own) (configuration_answer (cond open' (TooLate own) (judged_read own flags wish setup read)) destination) ≡ true
    by true read = eqb-same own
    by false (Ok options) = part_names own _ wish (joined setup.parts options) destination
    by false (Err refusal) = eqb-same own

pub stage_names : (own : ℕ) (stage : Stage) (wish : Wish) (flags : ℕ) (octets : List ℕ) (destination : ℕ) → is_peer own stage ≡ true → responds_with (errands.Configuration own) (configuration_answer (judged_stage stage wish flags octets) destination) ≡ true
stage_names own (Requested request) wish flags octets destination is = cc
stage_names own (Connected peer setup) wish flags octets destination is =
    subst (λ p. responds_with (errands.Configuration own) (configuration_answer (judged_setup p flags wish setup octets) destination) ≡ true) (eqb-true own peer is) (setup_names own flags wish setup octets destination)
stage_names own (Leaving peer setup request) wish flags octets destination is =
    subst (λ p. responds_with (errands.Configuration own) (configuration_answer (judged_setup p flags wish setup octets) destination) ≡ true) (eqb-true own peer is) (setup_names own flags wish setup octets destination)
stage_names own (Closing peer request checked) wish flags octets destination is = ap (λ p. eqb p own) (sym (eqb-true own peer is)) ∙ eqb-same own
stage_names own (Crossed peer request) wish flags octets destination is = ap (λ p. eqb p own) (sym (eqb-true own peer is)) ∙ eqb-same own

pub options_answered : (policy : Policy) (own destination flags : ℕ) (octets : List ℕ) (v : Channels) → HasPeer own (held_at destination v) → responds_with (errands.Configuration own) (configuration_answer (verdict policy destination flags octets v) destination) ≡ true
options_answered policy own destination flags octets v = by (held_at destination v)
  where
    by : (held : Option Held) → HasPeer own held → responds_with (errands.Configuration own) (configuration_answer (verdict_on held policy flags octets) destination) ≡ true
    by None none = absurd none
    by (Some held) is = stage_names own held.stage (policy.wish held.psm) flags octets destination is

-- ---- the end of a channel

pub end_answered : (own destination source : ℕ) (held : Option Held) → eqb source own ≡ true → HasPeer own held → Recalls (errands.Disconnection own) (disconnection_answer held destination source)
end_answered own destination source None is none = absurd none
end_answered own destination source (Some held) is has = by held.stage has
  where
    named : (peer : ℕ) → eqb own peer ≡ true → Recalls (errands.Disconnection own) (cond (eqb peer source) (Some (disconnection_response destination source)) None)
    named peer same =
        let it : eqb peer source ≡ true = ap (λ n. eqb n source) (sym (eqb-true own peer same)) ∙ (ap (λ n. eqb own n) (eqb-true source own is) ∙ eqb-same own) in
        subst (λ b. Recalls (errands.Disconnection own) (cond b (Some (disconnection_response destination source)) None)) (sym it) is

    by : (stage : Stage) → is_peer own stage ≡ true → Recalls (errands.Disconnection own) (disconnection_by stage destination source)
    by (Requested request) same = cc
    by (Connected peer setup) same = named peer same
    by (Leaving peer setup request) same = named peer same
    by (Closing peer request checked) same = named peer same
    by (Crossed peer request) same = named peer same

-- ---- any of them

pub content_recalled : (policy : Policy) (v : Channels) (e : Errand) (identifier : ℕ) (content : Content) → asks_with e content ≡ true → CanRespond e identifier content v → Recalls e (response_to policy identifier content v)
content_recalled policy v (errands.Connection own) identifier (connection_request psm source) asks can =
    recalled (errands.Connection own) v.memory.connection identifier (Some (connection_answer (connection_result policy psm source v) source v)) (Unit {0}) can (λ any. asks)
content_recalled policy v (errands.Configuration own) identifier (configuration_request destination flags options) asks can =
    recalled (errands.Configuration own) v.memory.configuration identifier (Some (configuration_answer (verdict policy destination flags options v) destination)) (HasPeer own (held_at destination v)) can (options_answered policy own destination flags options v)
content_recalled policy v (errands.Disconnection own) identifier (disconnection_request destination source) asks can =
    recalled (errands.Disconnection own) v.memory.disconnection identifier (disconnection_answer (held_at destination v) destination source) (HasPeer own (held_at destination v)) can (end_answered own destination source (held_at destination v) asks)
content_recalled policy v errands.Features identifier (information_request kind) asks can =
    recalled errands.Features v.memory.information identifier (Some (information_answer kind)) (Unit {0}) can (λ any. informed kind)
content_recalled policy v e identifier content asks can = cc

pub copies-have_responses : CopiesHaveResponses
copies-have_responses policy v errand identifier command asks can room =
    by (response_to policy command.identifier command.content v) (content_recalled policy v errand command.identifier command.content (and-right (eqb command.identifier identifier) (asks_with errand command.content) asks) can)
  where
    same : eqb command.identifier identifier ≡ true
    same = and-left (eqb command.identifier identifier) (asks_with errand command.content) asks

    by : (response : Option Content) → Recalls errand response → IsResponse errand identifier (command_if command.identifier response) v
    by None none = absurd none
    by (Some content) responds = (ap (λ b. b && responds_with errand content) same ∙ responds, room)
