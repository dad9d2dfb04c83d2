-- What a command makes of the answers that wait, and of what is remembered of options.
use Rattle.std.proofs.Common.{◌≡◌, ℕ, List, [], ◌∷◌, ◌++◌, Bool, true, false, cond, eqb, Option, Some, None, refl, ap, ◌∙◌}
use Rattle.channel_laws.specs.l2cap_signal.specs.Commands.{Content, reject, connection_request, connection_response, configuration_request, configuration_response, disconnection_request, disconnection_response, echo_request, echo_response, information_request, information_response}
use Rattle.channel_laws.specs.link_talk.specs.Channels.{Reading}
use Rattle.channel_laws.specs.channel_model.specs.declared.request_kind.RequestKind.{RequestKind}
use Rattle.channel_laws.specs.channel_model.specs.declared.request_kind.RequestKind.TheVariants as kinds
use Rattle.channel_laws.specs.channel_model.specs.Answers.{remembered, configuration_answer, answer_to}
use Rattle.channel_laws.specs.channel_model.specs.Changing.{held_at}
use Rattle.channel_laws.specs.channel_model.specs.Configuring.{verdict}
use Rattle.channel_laws.specs.channel_model.specs.Following.{follows, remembers, says, can_say, hears_new, hears_again, hears_kind, hears_request}
use Rattle.channel_laws.specs.channel_model.specs.Hearing.{hears_content}
use Rattle.channel_laws.specs.channel_model.specs.Policies.{Policy}
use Rattle.channel_laws.specs.channel_model.specs.Responses.{features_in}
use Rattle.channel_laws.specs.channel_model.specs.Value.{Remembered, Memory, Channels}
use Rattle.channel_laws.specs.OwnTalk.{command_with, response_by}
use Rattle.channel_laws.proofs.Conversing.{answers-more, says_memory, features_memory}
use Rattle.channel_laws.proofs.Lasting.{answers_of, Lasts, follows-lasts, grant-lasts, response-lasts, end-lasts}
use Rattle.channel_laws.proofs.Mild.{is_about_options}
use Rattle.channel_laws.proofs.PlainReplies.{plain_response, some_plain, ended_plain, informed_plain}
use Rattle.channel_laws.proofs.Saying.{answered-same}
use Rattle.channel_laws.proofs.Sound.{Sound}

-- the answer to a new request for options, as it is remembered
abbrev pub answer_now : Policy → (destination flags : ℕ) → List ℕ → Channels → Content
answer_now policy destination flags options v = configuration_answer (verdict policy destination flags options v) destination

abbrev pub answered_so : (identifier : ℕ) → Content → Remembered
answered_so identifier answer = record { identifier = identifier; response = Some answer }

-- nothing is answered; the answer is none to a request for options; it is the last one to such a request again; or it is one to a new request
pub data Heard (policy : Policy) (v w : Channels) (identifier : ℕ) (content : Content) : Type 0 where
  Quiet : w.memory.configuration ≡ v.memory.configuration → answers_of w.queue ≡ answers_of v.queue → Heard policy v w identifier content
  Other : w.memory.configuration ≡ v.memory.configuration → (answer : Content) → is_about_options answer ≡ false → answers_of w.queue ≡ answers_of v.queue ++ command_with identifier answer ∷ [] → Heard policy v w identifier content
  Again : w.memory.configuration ≡ v.memory.configuration → (last : Remembered) → v.memory.configuration ≡ Some last → (answer : Content) → last.response ≡ Some answer
      → answers_of w.queue ≡ answers_of v.queue ++ command_with identifier answer ∷ [] → Heard policy v w identifier content
  Anew : (destination flags : ℕ) (options : List ℕ) → content ≡ configuration_request destination flags options → w.memory.configuration ≡ Some (answered_so identifier (answer_now policy destination flags options v))
      → answers_of w.queue ≡ answers_of v.queue ++ command_with identifier (answer_now policy destination flags options v) ∷ [] → Heard policy v w identifier content

abbrev of_options : Memory → Option Remembered
of_options memory = memory.configuration

said_other : (policy : Policy) (v w : Channels) (identifier : ℕ) (content : Content) (response : Option Content) → w.memory.configuration ≡ v.memory.configuration → answers_of w.queue ≡ answers_of (says identifier response v).queue
    → ((answer : Content) → response ≡ Some answer → is_about_options answer ≡ false) → Heard policy v w identifier content
said_other policy v w identifier content None same queue plain = Quiet same queue
said_other policy v w identifier content (Some answer) same queue plain = Other same answer (plain answer refl) (queue ∙ answers-more v.queue (command_with identifier answer))

says_queue : (identifier : ℕ) (response : Option Content) (kind : RequestKind) (v : Channels) → answers_of (says identifier response (remembers kind identifier response v)).queue ≡ answers_of (says identifier response v).queue
says_queue identifier None kind v = refl
says_queue identifier (Some answer) kind v = refl

-- a request of another kind
kind_heard : (policy : Policy) (r : Reading) (v : Channels) → Sound policy r v → (kind : RequestKind) → (kind ≡ kinds.Configuration → ⊥) → (identifier : ℕ) (content : Content) (fresh : Option Content) (more : Channels → Channels) → ((u : Channels) → Lasts u (more u))
    → ((answer : Content) → fresh ≡ Some answer → is_about_options answer ≡ false) → (remembers kind identifier fresh v).memory.configuration ≡ v.memory.configuration → Heard policy v (hears_request kind identifier fresh more v) identifier content
kind_heard policy r v sound kind other identifier content fresh more lasts plain keeps = by (remembered kind v.memory) refl
  where
    u : Channels
    u = remembers kind identifier fresh v

    new : (can : Bool) → Heard policy v (cond can (more (says identifier fresh u)) v) identifier content
    new true =
        let goes = lasts (says identifier fresh u) in
        said_other policy v (more (says identifier fresh u)) identifier content fresh (ap of_options goes.1 ∙ (ap of_options (says_memory identifier fresh u) ∙ keeps)) (goes.2 ∙ says_queue identifier fresh kind v) plain
    new false = Quiet refl refl

    again : (last : Remembered) → remembered kind v.memory ≡ Some last → eqb last.identifier identifier ≡ true → (can : Bool) → Heard policy v (cond can (says identifier last.response v) v) identifier content
    again last at named true =
        said_other policy v (says identifier last.response v) identifier content last.response (ap of_options (says_memory identifier last.response v)) refl
        (λ answer is. plain_response policy r v sound kind other identifier fresh plain answer (ap (λ (l : Option Remembered). response_by l identifier fresh) at ∙ (ap (λ (b : Bool). cond b last.response fresh) named ∙ is)))
    again last at named false = Quiet refl refl

    by : (last : Option Remembered) → remembered kind v.memory ≡ last → Heard policy v (hears_kind last kind identifier fresh more v) identifier content
    by None at = new (can_say fresh v)
    by (Some last) at = on (eqb last.identifier identifier) refl
      where
        on : (same : Bool) → eqb last.identifier identifier ≡ same → Heard policy v (cond same (hears_again identifier last.response v) (hears_new kind identifier fresh more v)) identifier content
        on true named = again last at named (can_say last.response v)
        on false named = new (can_say fresh v)

-- a request for options
options_heard : (policy : Policy) (v : Channels) (identifier destination flags : ℕ) (options : List ℕ) → (let content : Content = configuration_request destination flags options in Heard policy v (hears_content policy identifier content v) identifier content)
options_heard policy v identifier destination flags options = by v.memory.configuration refl
  where
    content : Content
    content = configuration_request destination flags options

    answer : Content
    answer = configuration_answer (verdict policy destination flags options v) destination

    u : Channels
    u = remembers kinds.Configuration identifier (Some answer) v

    new : (can : Bool) → Heard policy v (cond can (follows policy content (says identifier (Some answer) u)) v) identifier content
    new true =
        let goes = follows-lasts policy content (says identifier (Some answer) u) in
        Anew destination flags options refl (ap of_options (goes.1 ∙ says_memory identifier (Some answer) u)) (goes.2 ∙ answers-more v.queue (command_with identifier answer))
    new false = Quiet refl refl

    again : (last : Remembered) → v.memory.configuration ≡ Some last → (response : Option Content) → last.response ≡ response → (can : Bool) → Heard policy v (cond can (says identifier response v) v) identifier content
    again last at None is true = Quiet refl refl
    again last at (Some one) is true = Again refl last at one is (answers-more v.queue (command_with identifier one))
    again last at response is false = Quiet refl refl

    by : (last : Option Remembered) → v.memory.configuration ≡ last → Heard policy v (hears_kind last kinds.Configuration identifier (Some answer) (follows policy content) v) identifier content
    by None at = new (can_say (Some answer) v)
    by (Some last) at = on (eqb last.identifier identifier)
      where
        on : (same : Bool) → Heard policy v (cond same (hears_again identifier last.response v) (hears_new kinds.Configuration identifier (Some answer) (follows policy content) v)) identifier content
        on true = again last at last.response refl (can_say last.response v)
        on false = new (can_say (Some answer) v)

responds : (policy : Policy) (v w : Channels) (identifier : ℕ) (content : Content) → w.memory ≡ v.memory → answers_of w.queue ≡ answers_of v.queue → Heard policy v w identifier content
responds policy v w identifier content same queue = Quiet (ap of_options same) queue

pub heard : (policy : Policy) (r : Reading) (v : Channels) → Sound policy r v → (identifier : ℕ) (content : Content) → Heard policy v (hears_content policy identifier content v) identifier content
heard policy r v sound identifier (reject reason rest) = responds policy v _ identifier (reject reason rest) (features_memory identifier None v) (answered-same policy v identifier (reject reason rest) refl)
heard policy r v sound identifier (connection_request psm source) =
    let c : Content = connection_request psm source in kind_heard policy r v sound kinds.Connection (λ same. cc) identifier c (answer_to policy c v) (follows policy c) (follows-lasts policy c) (some_plain _ refl) refl
heard policy r v sound identifier (connection_response destination source answer status) =
    let c : Content = connection_response destination source answer status in responds policy v _ identifier c (grant-lasts v (held_at source v) policy identifier destination answer).1 (answered-same policy v identifier c refl)
heard policy r v sound identifier (configuration_request destination flags options) = options_heard policy v identifier destination flags options
heard policy r v sound identifier (configuration_response source flags answer options) =
    let c : Content = configuration_response source flags answer options in responds policy v _ identifier c (response-lasts v (held_at source v) policy identifier answer options).1 (answered-same policy v identifier c refl)
heard policy r v sound identifier (disconnection_request destination source) =
    let c : Content = disconnection_request destination source in
    kind_heard policy r v sound kinds.Disconnection (λ same. cc) identifier c (answer_to policy c v) (follows policy c) (follows-lasts policy c) (ended_plain (held_at destination v) destination source) refl
heard policy r v sound identifier (disconnection_response destination source) =
    let c : Content = disconnection_response destination source in responds policy v _ identifier c (end-lasts v (held_at source v) destination).1 (answered-same policy v identifier c refl)
heard policy r v sound identifier (echo_request octets) =
    let c : Content = echo_request octets in kind_heard policy r v sound kinds.Echo (λ same. cc) identifier c (answer_to policy c v) (follows policy c) (follows-lasts policy c) (some_plain _ refl) refl
heard policy r v sound identifier (echo_response octets) = Quiet refl refl
heard policy r v sound identifier (information_request kind) =
    let c : Content = information_request kind in kind_heard policy r v sound kinds.Information (λ same. cc) identifier c (answer_to policy c v) (follows policy c) (follows-lasts policy c) (some_plain _ (informed_plain kind)) refl
heard policy r v sound identifier (information_response kind answer rest) =
    let c : Content = information_response kind answer rest in responds policy v _ identifier c (features_memory identifier (features_in kind answer rest) v) (answered-same policy v identifier c refl)
