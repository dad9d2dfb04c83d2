-- A command that is heard where nothing waits: what is said of it is what waits then.
use Rattle.std.proofs.Common.{◌≡◌, ℕ, List, [], ◌∷◌, ◌++◌, Bool, true, false, cond, eqb, Option, Some, None, Ok, Err, refl, sym, ap, subst, ◌∙◌, append-nil}
use Rattle.shelf_model.specs.capture.specs.declared.flow.Flow.TheVariants.{Into}
use Rattle.shelf_model.specs.l2cap_signal.specs.Commands.{Content, Command, reject, connection_request, connection_response, configuration_request, configuration_response, disconnection_request, disconnection_response, echo_request, echo_response, information_request, information_response}
use Rattle.shelf_model.specs.l2cap_signal.specs.Reading.{Answer as Read}
use Rattle.shelf_model.specs.l2cap_signal.specs.declared.refusal.SignalRefusal.TheVariants.{ZeroIdentifier, BadLength, UnknownCode, AboveMtu}
use Rattle.push_laws.specs.link_talk.specs.Sayings.{Saying}
use Rattle.push_laws.specs.link_talk.specs.Sayings as sayings
use Rattle.channel_laws.specs.channel_model.specs.declared.errand.Errand.{Errand}
use Rattle.channel_laws.specs.channel_model.specs.declared.request_kind.RequestKind.{RequestKind}
use Rattle.channel_laws.specs.channel_model.specs.declared.request_kind.RequestKind.TheVariants as kinds
use Rattle.channel_laws.specs.channel_model.specs.Value.{Queued, Ask, Remembered, Channels}
use Rattle.channel_laws.specs.channel_model.specs.Policies.{Policy}
use Rattle.channel_laws.specs.channel_model.specs.Changing.{held_at, answers}
use Rattle.channel_laws.specs.channel_model.specs.Asking.{next_identifier}
use Rattle.channel_laws.specs.channel_model.specs.Answers.{kind_of_code, remembered, not_understood, too_long, answer_to}
use Rattle.channel_laws.specs.channel_model.specs.Following.{remembers, says, hears_new, hears_again, hears_kind, hears_request, follows}
use Rattle.channel_laws.specs.channel_model.specs.Responses.{features_in}
use Rattle.channel_laws.specs.channel_model.specs.Hearing.{hears_malformed, is_response_code, is_kind, hears_unread, hears_command}
use Rattle.channel_laws.specs.channel_model.proofs.Lookups.{eqb-same}
use Rattle.channel_laws.specs.OwnTalk.{spoken, command_with, response_by, response_as, response_malformed, response_unread, command_if, reply_to, exchanged, newest, said_of, asked_between}
use Rattle.channel_laws.proofs.Asking.{next-apart}
use Rattle.host_laws.specs.Seen.{waiting_in, AllDue}
use Rattle.host_laws.proofs.Adding.{Replies, Adds, Stays, Demands, from-same, follows-adds, grant-adds, response-adds, end-adds, features-add}

-- ---- what is asked

pub record Asked (v w : Channels) : Type 0 where
  pub said : asked_between v w ≡ waiting_in w.queue w
  pub due : AllDue w.queue w

pub asked-stays : (v w : Channels) → w.identifier ≡ v.identifier → asked_between v w ≡ []
asked-stays v w same = ap (λ n. cond (eqb n v.identifier) [] (said_of (newest w.queue) w)) same ∙ ap (λ b. cond b [] (said_of (newest w.queue) w)) (eqb-same v.identifier)

pub asked-one : (v w : Channels) (errand : Errand) → w.identifier ≡ next_identifier v.identifier → newest w.queue ≡ Some errand → asked_between v w ≡ said_of (Some errand) w
asked-one v w errand next last =
    ap (λ n. cond (eqb n v.identifier) [] (said_of (newest w.queue) w)) next
    ∙ (ap (λ b. cond b [] (said_of (newest w.queue) w)) (next-apart v.identifier) ∙ ap (λ (e : Option Errand). said_of e w) last)

-- nothing waited before
pub asked-so : (v w : Channels) → v.queue ≡ [] → Adds v w → Asked v w
asked-so v w none (Stays same still) = record {
  said = asked-stays v w same ∙ sym (ap (λ (queue : List Queued). waiting_in queue w) (still ∙ none));
  due = subst (λ (queue : List Queued). AllDue queue w) (sym (still ∙ none)) tt;
}
asked-so v w none (Demands errand next more some) =
    let queue_is : w.queue ≡ Ask errand ∷ [] = more ∙ ap (λ (queue : List Queued). queue ++ Ask errand ∷ []) none in
    record {
      said = asked-one v w errand next (ap newest queue_is) ∙ (sym (append-nil (said_of (Some errand) w)) ∙ sym (ap (λ (queue : List Queued). waiting_in queue w) queue_is));
      due = subst (λ (queue : List Queued). AllDue queue w) (sym queue_is) (some, tt);
    }

-- ---- a command, its reply, and what is asked behind it

abbrev quieted : Channels → Channels
quieted u = record u { queue = [] }

pub record Answered (one : Read) (reply : Option Command) (v w : Channels) : Type 0 where
  pub said : exchanged one reply v ++ asked_between v w ≡ sayings.Command Into one ∷ waiting_in w.queue w
  pub due : AllDue w.queue w

replied : (one : Read) (identifier : ℕ) (response : Option Content) (u w : Channels) → Adds (says identifier response (quieted u)) w → Answered one (command_if identifier response) (quieted u) w
replied one identifier None u w adds =
    let asked = asked-so (quieted u) w refl adds in record { said = ap (λ (rest : List Saying). sayings.Command Into one ∷ rest) asked.said; due = asked.due }
replied one identifier (Some content) u w (Stays same still) = record {
  said = ap (λ (rest : List Saying). sayings.Command Into one ∷ (spoken (command_with identifier content) ∷ rest)) (asked-stays (quieted u) w same)
      ∙ sym (ap (λ (queue : List Queued). sayings.Command Into one ∷ waiting_in queue w) still);
  due = subst (λ (queue : List Queued). AllDue queue w) (sym still) (tt, tt);
}
replied one identifier (Some content) u w (Demands errand next more some) = record {
  said = ap (λ (rest : List Saying). sayings.Command Into one ∷ (spoken (command_with identifier content) ∷ rest))
      (asked-one (quieted u) w errand next (ap newest more) ∙ sym (append-nil (said_of (Some errand) w)))
      ∙ sym (ap (λ (queue : List Queued). sayings.Command Into one ∷ waiting_in queue w) more);
  due = subst (λ (queue : List Queued). AllDue queue w) (sym more) (tt, (some, tt));
}

-- ---- requests

abbrev Follows_on : (Channels → Channels) → Type 0
Follows_on more = (x : Channels) → Replies x.queue → Adds x (more x)

new_adds : (kind : RequestKind) (identifier : ℕ) (fresh : Option Content) (more : Channels → Channels) (u : Channels) → Follows_on more → Adds (says identifier fresh (quieted u)) (hears_new kind identifier fresh more (quieted u))
new_adds kind identifier None more u follow =
    let x : Channels = remembers kind identifier None (quieted u) in from-same x (quieted u) (more x) refl refl (follow x tt)
new_adds kind identifier (Some content) more u follow =
    let x : Channels = answers identifier content (remembers kind identifier (Some content) (quieted u)) in
    from-same x (answers identifier content (quieted u)) (more x) refl refl (follow x (tt, tt))

again_adds : (identifier : ℕ) (response : Option Content) (u : Channels) → Adds (says identifier response (quieted u)) (hears_again identifier response (quieted u))
again_adds identifier None u = Stays refl refl
again_adds identifier (Some content) u = Stays refl refl

kind_adds : (last : Option Remembered) (kind : RequestKind) (identifier : ℕ) (fresh : Option Content) (more : Channels → Channels) (u : Channels) → Follows_on more
    → Adds (says identifier (response_by last identifier fresh) (quieted u)) (hears_kind last kind identifier fresh more (quieted u))
kind_adds None kind identifier fresh more u follow = new_adds kind identifier fresh more u follow
kind_adds (Some last) kind identifier fresh more u follow = by (eqb last.identifier identifier)
  where
    by : (same : Bool) → Adds (says identifier (cond same last.response fresh) (quieted u)) (cond same (hears_again identifier last.response (quieted u)) (hears_new kind identifier fresh more (quieted u)))
    by true = again_adds identifier last.response u
    by false = new_adds kind identifier fresh more u follow

request_answered : (one : Read) (kind : RequestKind) (identifier : ℕ) (fresh : Option Content) (more : Channels → Channels) (u : Channels) → Follows_on more
    → Answered one (command_if identifier (response_as kind identifier fresh (quieted u))) (quieted u) (hears_request kind identifier fresh more (quieted u))
request_answered one kind identifier fresh more u follow =
    replied one identifier (response_as kind identifier fresh (quieted u)) u (hears_request kind identifier fresh more (quieted u)) (kind_adds (remembered kind u.memory) kind identifier fresh more u follow)

-- ---- a command that can be read

abbrev Heard : Policy → Read → Channels → Type 0
Heard policy one u = Answered one (reply_to policy one (quieted u)) (quieted u) (hears_command policy one (quieted u))

question : (policy : Policy) (one : Read) (kind : RequestKind) (identifier : ℕ) (content : Content) (u : Channels)
    → Answered one (command_if identifier (response_as kind identifier (answer_to policy content (quieted u)) (quieted u))) (quieted u) (hears_request kind identifier (answer_to policy content (quieted u)) (follows policy content) (quieted u))
question policy one kind identifier content u = request_answered one kind identifier (answer_to policy content (quieted u)) (follows policy content) u (follows-adds policy content)

content_heard : (policy : Policy) (identifier : ℕ) (content : Content) (u : Channels) → (let command : Command = record { identifier = identifier; content = content } in Heard policy (Ok command) u)
content_heard policy identifier (reject reason rest) u = replied _ identifier None u _ (features-add (quieted u) tt identifier None)
content_heard policy identifier (connection_request psm source) u = question policy _ kinds.Connection identifier (connection_request psm source) u
content_heard policy identifier (connection_response destination source answer status) u = replied _ identifier None u _ (grant-adds (quieted u) tt policy source (held_at source (quieted u)) identifier destination answer refl)
content_heard policy identifier (configuration_request destination flags options) u = question policy _ kinds.Configuration identifier (configuration_request destination flags options) u
content_heard policy identifier (configuration_response source flags answer options) u = replied _ identifier None u _ (response-adds (quieted u) tt policy source (held_at source (quieted u)) identifier answer options refl)
content_heard policy identifier (disconnection_request destination source) u = question policy _ kinds.Disconnection identifier (disconnection_request destination source) u
content_heard policy identifier (disconnection_response destination source) u = replied _ identifier None u _ (end-adds (quieted u) tt (held_at source (quieted u)) destination)
content_heard policy identifier (echo_request octets) u = question policy _ kinds.Echo identifier (echo_request octets) u
content_heard policy identifier (echo_response octets) u = replied _ identifier None u (quieted u) (Stays refl refl)
content_heard policy identifier (information_request kind) u = question policy _ kinds.Information identifier (information_request kind) u
content_heard policy identifier (information_response kind answer rest) u = replied _ identifier None u _ (features-add (quieted u) tt identifier (features_in kind answer rest))

-- ---- a command that cannot be read

malformed : (one : Read) (kind : Option RequestKind) (identifier : ℕ) (u : Channels)
    → Answered one (command_if identifier (response_malformed kind identifier (quieted u))) (quieted u) (cond (is_kind kind) (hears_malformed kind identifier (quieted u)) (hears_again identifier (Some not_understood) (quieted u)))
malformed one None identifier u = replied one identifier (Some not_understood) u _ (again_adds identifier (Some not_understood) u)
malformed one (Some kind) identifier u = request_answered one kind identifier (Some not_understood) (λ x. x) u (λ x all. Stays refl refl)

unread : (one : Read) (code identifier : ℕ) (u : Channels) → Answered one (command_if identifier (response_unread code identifier (quieted u))) (quieted u) (hears_unread code identifier (quieted u))
unread one code identifier u = by (eqb identifier 0) (is_response_code code)
  where
    by : (zero response : Bool)
        → Answered one (command_if identifier (cond zero None (cond response None (response_malformed (kind_of_code code) identifier (quieted u))))) (quieted u)
        (cond zero (quieted u) (cond response (quieted u) (cond (is_kind (kind_of_code code)) (hears_malformed (kind_of_code code) identifier (quieted u)) (hears_again identifier (Some not_understood) (quieted u)))))
    by true response = replied one identifier None u (quieted u) (Stays refl refl)
    by false true = replied one identifier None u (quieted u) (Stays refl refl)
    by false false = malformed one (kind_of_code code) identifier u

long : (one : Read) (identifier : ℕ) (zero : Bool) (u : Channels) → Answered one (command_if identifier (cond zero None (Some too_long))) (quieted u) (cond zero (quieted u) (hears_again identifier (Some too_long) (quieted u)))
long one identifier true u = replied one identifier None u (quieted u) (Stays refl refl)
long one identifier false u = replied one identifier (Some too_long) u _ (again_adds identifier (Some too_long) u)

one_heard : (policy : Policy) (one : Read) (u : Channels) → Heard policy one u
one_heard policy (Ok command) u = content_heard policy command.identifier command.content u
one_heard policy (Err (ZeroIdentifier code identifier)) u = replied _ 0 None u (quieted u) (Stays refl refl)
one_heard policy (Err (BadLength code None)) u = replied _ 0 None u (quieted u) (Stays refl refl)
one_heard policy (Err (BadLength code (Some identifier))) u = unread _ code identifier u
one_heard policy (Err (UnknownCode code None)) u = replied _ 0 None u (quieted u) (Stays refl refl)
one_heard policy (Err (UnknownCode code (Some identifier))) u = unread _ code identifier u
one_heard policy (Err (AboveMtu code None)) u = replied _ 0 None u (quieted u) (Stays refl refl)
one_heard policy (Err (AboveMtu code (Some identifier))) u = long _ identifier (eqb identifier 0) u

pub command-heard : (policy : Policy) (one : Read) (v : Channels) → v.queue ≡ [] → Answered one (reply_to policy one v) v (hears_command policy one v)
command-heard policy one v none =
    let same : v ≡ quieted v = ap (λ (queue : List Queued). let w : Channels = record v { queue = queue } in w) none in
    subst (λ (u : Channels). Answered one (reply_to policy one u) u (hears_command policy one u)) (sym same) (one_heard policy one v)
