-- What a host answers, and remembers of its answers, are responses.
use Rattle.std.proofs.Common.{◌≡◌, ℕ, [], ◌∷◌, Bool, true, false, cond, eqb, Option, Some, None, refl}
use Rattle.talk_laws.specs.l2cap_signal.specs.Commands.{Content, reject, connection_request, connection_response, configuration_request, configuration_response, disconnection_request, disconnection_response, echo_request, echo_response, information_request, information_response}
use Rattle.talk_laws.specs.l2cap_config.specs.declared.agreement.ConfigAnswer.{ConfigAnswer}
use Rattle.talk_laws.specs.l2cap_config.specs.declared.agreement.ConfigAnswer.TheVariants.{Accept, Unacceptable, Unknown}
use Rattle.talk_laws.specs.l2cap_config.specs.declared.options.Options.{Options}
use Rattle.channel_model.specs.declared.request_kind.RequestKind.{RequestKind}
use Rattle.channel_model.specs.declared.request_kind.RequestKind.TheVariants as kinds
use Rattle.channel_model.specs.Value.{Stage, Requested, Connected, Leaving, Closing, Crossed, Held, Remembered, Memory, Channels}
use Rattle.channel_model.specs.Policies.{Policy}
use Rattle.channel_model.specs.Changing.{held_at}
use Rattle.channel_model.specs.Configuring.{Verdict, NoChannel, TooLate, Unreadable, Incomplete, Judged, verdict}
use Rattle.channel_model.specs.Answers.{remembered, with_remembered, judged_answer, configuration_answer, disconnection_by, disconnection_answer, answer_to}

abbrev pub is_response : Content → Bool
is_response (reject reason rest) = true
is_response (connection_request psm source) = false
is_response (connection_response destination source answer status) = true
is_response (configuration_request destination flags options) = false
is_response (configuration_response source flags answer options) = true
is_response (disconnection_request destination source) = false
is_response (disconnection_response destination source) = true
is_response (echo_request octets) = false
is_response (echo_response octets) = true
is_response (information_request kind) = false
is_response (information_response kind answer rest) = true

abbrev pub IsReply : Option Content → Type 0
IsReply None = Unit {0}
IsReply (Some content) = is_response content ≡ true

-- ---- what is remembered

abbrev pub IsReplied : Option Remembered → Type 0
IsReplied None = Unit {0}
IsReplied (Some last) = IsReply last.response

pub record Replies (memory : Memory) : Type 0 where
  pub connection : IsReplied memory.connection
  pub configuration : IsReplied memory.configuration
  pub disconnection : IsReplied memory.disconnection
  pub echo : IsReplied memory.echo
  pub information : IsReplied memory.information

pub replied : (kind : RequestKind) (memory : Memory) → Replies memory → IsReplied (remembered kind memory)
replied kinds.Connection memory replies = replies.connection
replied kinds.Configuration memory replies = replies.configuration
replied kinds.Disconnection memory replies = replies.disconnection
replied kinds.Echo memory replies = replies.echo
replied kinds.Information memory replies = replies.information

pub replies-with : (kind : RequestKind) (last : Remembered) (memory : Memory) → IsReply last.response → Replies memory → Replies (with_remembered kind last memory)
replies-with kinds.Connection last memory now r = record { connection = now; configuration = r.configuration; disconnection = r.disconnection; echo = r.echo; information = r.information }
replies-with kinds.Configuration last memory now r = record { connection = r.connection; configuration = now; disconnection = r.disconnection; echo = r.echo; information = r.information }
replies-with kinds.Disconnection last memory now r = record { connection = r.connection; configuration = r.configuration; disconnection = now; echo = r.echo; information = r.information }
replies-with kinds.Echo last memory now r = record { connection = r.connection; configuration = r.configuration; disconnection = r.disconnection; echo = now; information = r.information }
replies-with kinds.Information last memory now r = record { connection = r.connection; configuration = r.configuration; disconnection = r.disconnection; echo = r.echo; information = now }

-- ---- what is answered

judged_reply : (answer : ConfigAnswer) (peer : ℕ) (options : Options) → is_response (judged_answer answer peer options) ≡ true
judged_reply (Accept given) peer options = refl
judged_reply (Unacceptable refusal given) peer options = refl
judged_reply Unknown peer options = refl

configuration_reply : (now : Verdict) (own : ℕ) → is_response (configuration_answer now own) ≡ true
configuration_reply NoChannel own = refl
configuration_reply (TooLate peer) own = refl
configuration_reply (Unreadable peer) own = refl
configuration_reply (Incomplete peer options) own = refl
configuration_reply (Judged peer options answer) own = judged_reply answer peer options

disconnection_reply : (held : Option Held) (own peer : ℕ) → IsReply (disconnection_answer held own peer)
disconnection_reply None own peer = refl
disconnection_reply (Some held) own peer = by held.stage
  where
    named : (same : Bool) → IsReply (cond same (Some (disconnection_response own peer)) None)
    named true = refl
    named false = tt

    by : (stage : Stage) → IsReply (disconnection_by stage own peer)
    by (Requested request) = refl
    by (Connected endpoint setup) = named (eqb endpoint peer)
    by (Leaving endpoint setup request) = named (eqb endpoint peer)
    by (Closing endpoint request checked) = named (eqb endpoint peer)
    by (Crossed endpoint request) = named (eqb endpoint peer)

pub answer-reply : (policy : Policy) (content : Content) (v : Channels) → IsReply (answer_to policy content v)
answer-reply policy (reject reason rest) v = tt
answer-reply policy (connection_request psm source) v = refl
answer-reply policy (connection_response destination source answer status) v = tt
answer-reply policy (configuration_request destination flags options) v = configuration_reply (verdict policy destination flags options v) destination
answer-reply policy (configuration_response source flags answer options) v = tt
answer-reply policy (disconnection_request destination source) v = disconnection_reply (held_at destination v) destination source
answer-reply policy (disconnection_response destination source) v = tt
answer-reply policy (echo_request octets) v = refl
answer-reply policy (echo_response octets) v = tt
answer-reply policy (information_request kind) v = by (eqb kind 2) (eqb kind 3)
  where
    by : (a b : Bool) → is_response (cond a (information_response kind 0 (0xA8 ∷ 0x00 ∷ 0x00 ∷ 0x00 ∷ [])) (cond b (information_response kind 0 (0x02 ∷ 0x00 ∷ 0x00 ∷ 0x00 ∷ 0x00 ∷ 0x00 ∷ 0x00 ∷ 0x00 ∷ [])) (information_response kind 1 []))) ≡ true
    by true b = refl
    by false true = refl
    by false false = refl
answer-reply policy (information_response kind answer rest) v = tt
