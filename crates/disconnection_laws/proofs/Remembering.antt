-- What the side that responds to requests for ends remembers, as a command comes in.
use Rattle.std.proofs.Common.{◌≡◌, ◌≤◌, arith, ℕ, List, [], ◌∷◌, ◌++◌, Bool, true, false, cond, eqb, Option, Some, None, Ok, refl, sym, ap, subst, ◌∙◌, ◌⊎◌, inl, inr}
use Rattle.std.proofs.lemmas.Bool.{eqb-true}
use Rattle.channel_laws.specs.l2cap_signal.specs.Commands.{Content, Command, reject, connection_request, connection_response, configuration_request, configuration_response, disconnection_request, disconnection_response, echo_request, echo_response, information_request, information_response}
use Rattle.channel_laws.specs.link_talk.specs.Channels.{reading}
use Rattle.channel_laws.specs.link_talk.specs.Sayings.{Saying}
use Rattle.channel_laws.specs.channel_model.specs.declared.errand.Errand.TheVariants as errands
use Rattle.channel_laws.specs.channel_model.specs.declared.request_kind.RequestKind.TheVariants as kinds
use Rattle.channel_laws.specs.channel_model.specs.Answers.{disconnection_by, disconnection_answer, answer_to}
use Rattle.channel_laws.specs.channel_model.specs.Changing.{held_at, is_peer}
use Rattle.channel_laws.specs.channel_model.specs.Following.{follows, remembers, says, can_say, hears_new, hears_again, hears_kind}
use Rattle.channel_laws.specs.channel_model.specs.Hearing.{hears_content, hears_command}
use Rattle.channel_laws.specs.channel_model.specs.Policies.{Policy}
use Rattle.channel_laws.specs.channel_model.specs.Responses.{features_in}
use Rattle.channel_laws.specs.channel_model.specs.Value.{Stage, Requested, Connected, Leaving, Closing, Crossed, Held, Remembered, Memory, Channels}
use Rattle.channel_laws.specs.channel_model.proofs.Lookups.{eqb-same}
use Rattle.channel_laws.specs.OwnTalk.{spoken, command_with, reply_to, exchanged, asked_between, said_with_all}
use Rattle.channel_laws.specs.Responding.{Recalls, HasPeer}
use Rattle.channel_laws.specs.Signals.{StandsIn}
use Rattle.channel_laws.proofs.Conversing.{says_memory, features_memory}
use Rattle.channel_laws.proofs.Lasting.{follows-lasts, grant-lasts, response-lasts, end-lasts}
use Rattle.channel_laws.proofs.Saying.{stands-either}
use Rattle.channel_laws.proofs.Sound.{Sound}
use Rattle.channel_laws.proofs.Words.{words-asked}
use Rattle.disconnection_laws.specs.Ended.{HasAnsweredEnd}
use Rattle.disconnection_laws.proofs.Ending.{Silent, own-words, OfEnd, said-memory, other-memory, AnsweredNow, Replied, any-replied, answered-in}
use Rattle.disconnection_laws.proofs.Singly.{wants, IsEndOf, end_request, Brings, Wanting, wanting, Good, Inv}

-- ---- what a command makes of what is remembered of ends

-- it asks for an end, and not as the last one that is remembered
pub record Anew (v w : Channels) (identifier : ℕ) (content : Content) : Type 0 where
  pub destination : ℕ
  pub source : ℕ
  pub content_is : content ≡ disconnection_request destination source
  pub after : (let it : Remembered = record { identifier = identifier; response = disconnection_answer (held_at destination v) destination source } in w.memory.disconnection ≡ Some it)
  pub other : (last : Remembered) → v.memory.disconnection ≡ Some last → last.identifier ≡ identifier → ⊥

pub memory_goes : (policy : Policy) (v : Channels) (identifier : ℕ) (content : Content) → (let w : Channels = hears_content policy identifier content v in (w.memory.disconnection ≡ v.memory.disconnection) ⊎ Anew v w identifier content)
memory_goes policy v identifier (reject reason rest) = inl (ap (λ (m : Memory). m.disconnection) (features_memory identifier None v))
memory_goes policy v identifier (connection_request psm source) = let c : Content = connection_request psm source in inl (other-memory v v.memory.connection kinds.Connection identifier (answer_to policy c v) (follows policy c) (λ u. (follows-lasts policy c u).1) (λ u. refl))
memory_goes policy v identifier (connection_response destination source answer status) = inl (ap (λ (m : Memory). m.disconnection) (grant-lasts v (held_at source v) policy identifier destination answer).1)
memory_goes policy v identifier (configuration_request destination flags options) =
    let c : Content = configuration_request destination flags options in inl (other-memory v v.memory.configuration kinds.Configuration identifier (answer_to policy c v) (follows policy c) (λ u. (follows-lasts policy c u).1) (λ u. refl))
memory_goes policy v identifier (configuration_response source flags answer options) = inl (ap (λ (m : Memory). m.disconnection) (response-lasts v (held_at source v) policy identifier answer options).1)
memory_goes policy v identifier (disconnection_request destination source) = by v.memory.disconnection refl
  where
    c : Content
    c = disconnection_request destination source

    given : Option Content
    given = disconnection_answer (held_at destination v) destination source

    it : Remembered
    it = record { identifier = identifier; response = given }

    u : Channels
    u = says identifier given (remembers kinds.Disconnection identifier given v)

    new : ((last : Remembered) → v.memory.disconnection ≡ Some last → last.identifier ≡ identifier → ⊥) → (can : Bool)
        → (let w : Channels = cond can (follows policy c u) v in (w.memory.disconnection ≡ v.memory.disconnection) ⊎ Anew v w identifier c)
    new other true = inr (record {
      destination = destination;
      source = source;
      content_is = refl;
      after = ap (λ (m : Memory). m.disconnection) ((follows-lasts policy c u).1 ∙ says_memory identifier given (remembers kinds.Disconnection identifier given v));
      other = other;
    })
    new other false = inl refl

    by : (last : Option Remembered) → v.memory.disconnection ≡ last → (let w : Channels = hears_kind last kinds.Disconnection identifier given (follows policy c) v in (w.memory.disconnection ≡ v.memory.disconnection) ⊎ Anew v w identifier c)
    by None at = new (λ last there named. let never : None ≡ Some last = sym at ∙ there in cc) (can_say given v)
    by (Some last) at = same (eqb last.identifier identifier) refl
      where
        apart : eqb last.identifier identifier ≡ false → (other : Remembered) → v.memory.disconnection ≡ Some other → other.identifier ≡ identifier → ⊥
        apart not other there named =
            let both : Some last ≡ Some other = sym at ∙ there in
            let it : last ≡ other = cc in
            let never : true ≡ false = sym (eqb-same identifier) ∙ (ap (λ n. eqb n identifier) (sym (ap (λ (l : Remembered). l.identifier) it ∙ named)) ∙ not) in cc

        same : (equal : Bool) → eqb last.identifier identifier ≡ equal → (let w : Channels = cond equal (hears_again identifier last.response v) (hears_new kinds.Disconnection identifier given (follows policy c) v) in (w.memory.disconnection ≡ v.memory.disconnection) ⊎ Anew v w identifier c)
        same true is = inl (ap (λ (m : Memory). m.disconnection) (said-memory identifier last.response v (can_say last.response v)))
        same false is = new (apart is) (can_say given v)
memory_goes policy v identifier (disconnection_response destination source) = inl (ap (λ (m : Memory). m.disconnection) (end-lasts v (held_at source v) destination).1)
memory_goes policy v identifier (echo_request octets) = let c : Content = echo_request octets in inl (other-memory v v.memory.echo kinds.Echo identifier (answer_to policy c v) (follows policy c) (λ u. (follows-lasts policy c u).1) (λ u. refl))
memory_goes policy v identifier (echo_response octets) = inl refl
memory_goes policy v identifier (information_request kind) = let c : Content = information_request kind in inl (other-memory v v.memory.information kinds.Information identifier (answer_to policy c v) (follows policy c) (λ u. (follows-lasts policy c u).1) (λ u. refl))
memory_goes policy v identifier (information_response kind answer rest) = inl (ap (λ (m : Memory). m.disconnection) (features_memory identifier (features_in kind answer rest) v))

-- where the channel is there, the answer is a response
pub recalls_fresh : (found : Option Held) (destination own : ℕ) → HasPeer own found → Recalls (errands.Disconnection own) (disconnection_answer found destination own)
recalls_fresh None destination own is = elim is [ ]
recalls_fresh (Some held) destination own is = by held.stage is
  where
    named : (endpoint : ℕ) → eqb own endpoint ≡ true → Recalls (errands.Disconnection own) (cond (eqb endpoint own) (Some (disconnection_response destination own)) None)
    named endpoint same =
        let it : eqb endpoint own ≡ true = ap (λ n. eqb n own) (sym (eqb-true own endpoint same)) ∙ eqb-same own in
        subst (λ b. Recalls (errands.Disconnection own) (cond b (Some (disconnection_response destination own)) None)) (sym it) (eqb-same own)

    by : (stage : Stage) → is_peer own stage ≡ true → Recalls (errands.Disconnection own) (disconnection_by stage destination own)
    by (Requested request) is = cc
    by (Connected endpoint setup) is = named endpoint is
    by (Leaving endpoint setup request) is = named endpoint is
    by (Closing endpoint request checked) is = named endpoint is
    by (Crossed endpoint request) is = named endpoint is

-- ---- the side that responds hears a command

-- its channel is there for each request that waits, if that is not the last that it remembers
abbrev pub Theres : (v : Channels) (memory : Option Remembered) (u : Channels) → Type 0
Theres v memory u = (own : ℕ) (other : Command) → wants own v ≡ Some other → ((last : Remembered) → memory ≡ Some last → last.identifier ≡ other.identifier → ⊥) → (destination : ℕ) → other.content ≡ disconnection_request destination own → HasPeer own (held_at destination u)

-- what is known of the command, which is no longer among the rest, or among it still
pub record First (said : List Saying) (v : Channels) (memory : Option Remembered) (rest : List (List ℕ)) (command : Command) : Type 0 where
  pub good : (source : ℕ) → IsEndOf command source → Good said v command source
  pub front : (source : ℕ) → IsEndOf command source → (pdu : List ℕ) → StandsIn pdu rest → (other : Command) (t : ℕ) → Brings pdu other → IsEndOf other t → command.identifier ≤ other.identifier
  pub behind : (last : Remembered) → memory ≡ Some last → (source : ℕ) → IsEndOf command source → last.identifier ≤ command.identifier

-- an end that is answered now: it is remembered
pub record Now (said : List Saying) (v w : Channels) (identifier destination source : ℕ) : Type 0 where
  pub good : Good said v (end_request identifier destination source) source
  pub last : Remembered
  pub at : w.memory.disconnection ≡ Some last
  pub named : last.identifier ≡ identifier

pub hears-on : (policy : Policy) (said : List Saying) (v : Channels) (theirs : List Saying) (u : Channels) (rest : List (List ℕ)) (command : Command) → Sound policy (reading theirs) u → First said v u.memory.disconnection rest command → Theres v u.memory.disconnection u
    → Inv said v theirs u.memory.disconnection rest → Inv said v (theirs ++ said_with_all policy (Ok command ∷ []) u) (hears_command policy (Ok command) u).memory.disconnection rest
hears-on policy said v theirs u rest command sound first there inv = by (memory_goes policy u command.identifier command.content)
  where
    w : Channels
    w = hears_command policy (Ok command) u

    more : List Saying
    more = said_with_all policy (Ok command ∷ []) u

    K : OfEnd
    K identifier destination source = Good said v (end_request identifier destination source) source

    now : AnsweredNow policy (reading theirs) u K (Ok command)
    now identifier destination source is has can =
        let it : command ≡ end_request identifier destination source = cc in
        subst (λ (c : Command). Good said v c source) it (first.good source (destination, ap (λ (c : Command). c.content) it))

    so : Replied K u w (reply_to policy (Ok command) u)
    so = any-replied policy (reading theirs) u sound K (λ last destination source at is. inv.replied last destination source at is) (Ok command) now

    replies : (identifier destination source : ℕ) → HasAnsweredEnd identifier destination source (exchanged (Ok command) (reply_to policy (Ok command) u) u) → Now said v w identifier destination source
    replies identifier destination source is =
        let (answer, can) = answered-in (Ok command) (reply_to policy (Ok command) u) u identifier destination source is in
        let (last, at, named, response) = so.said identifier destination source answer can in
        record { good = subst (λ n. Good said v (end_request n destination source) source) named (so.kept last destination source at response); last = last; at = at; named = named }

    answers_now : (identifier destination source : ℕ) → HasAnsweredEnd identifier destination source more → Now said v w identifier destination source
    answers_now identifier destination source is = whole (stands-either it (exchanged (Ok command) (reply_to policy (Ok command) u) u ++ asked_between u w) [] is)
      where
        it : Saying
        it = spoken (command_with identifier (disconnection_response destination source))

        part : HasAnsweredEnd identifier destination source (exchanged (Ok command) (reply_to policy (Ok command) u) u) ⊎ HasAnsweredEnd identifier destination source (asked_between u w) → Now said v w identifier destination source
        part (inl reply) = replies identifier destination source reply
        part (inr own) = absurd (words-asked w Silent (own-words w) u identifier destination source own)

        whole : HasAnsweredEnd identifier destination source (exchanged (Ok command) (reply_to policy (Ok command) u) u ++ asked_between u w) ⊎ HasAnsweredEnd identifier destination source [] → Now said v w identifier destination source
        whole (inl both) = part (stands-either it (exchanged (Ok command) (reply_to policy (Ok command) u) u) (asked_between u w) both)
        whole (inr none) = elim none [ ]

    answered : (identifier destination source : ℕ) → HasAnsweredEnd identifier destination source theirs ⊎ HasAnsweredEnd identifier destination source more → Good said v (end_request identifier destination source) source
    answered identifier destination source (inl old) = inv.answered identifier destination source old
    answered identifier destination source (inr new) = (answers_now identifier destination source new).good

    either : (identifier destination source : ℕ) → HasAnsweredEnd identifier destination source (theirs ++ more) → HasAnsweredEnd identifier destination source theirs ⊎ HasAnsweredEnd identifier destination source more
    either identifier destination source is = stands-either (spoken (command_with identifier (disconnection_response destination source))) theirs more is

    -- what was answered before is no later than what is remembered
    latest : ((identifier destination source : ℕ) → HasAnsweredEnd identifier destination source theirs → (last : Remembered) × (w.memory.disconnection ≡ Some last) × (identifier ≤ last.identifier))
        → (identifier destination source : ℕ) → HasAnsweredEnd identifier destination source theirs ⊎ HasAnsweredEnd identifier destination source more → (last : Remembered) × (w.memory.disconnection ≡ Some last) × (identifier ≤ last.identifier)
    latest before identifier destination source (inl old) = before identifier destination source old
    latest before identifier destination source (inr new) = let it = answers_now identifier destination source new in (it.last, it.at, let named = it.named in omega (arith, named))

    by : (w.memory.disconnection ≡ u.memory.disconnection) ⊎ Anew u w command.identifier command.content → Inv said v (theirs ++ more) w.memory.disconnection rest
    by (inl same) = record {
      plain = inv.plain;
      good = inv.good;
      ordered = inv.ordered;
      behind = λ last at. inv.behind last (sym same ∙ at);
      answered = λ i d s is. answered i d s (either i d s is);
      latest = λ i d s is. latest (λ j e t old. let (last, at, few) = inv.latest j e t old in (last, same ∙ at, few)) i d s (either i d s is);
      below = λ last at. inv.below last (sym same ∙ at);
      least = λ last at. inv.least last (sym same ∙ at);
      kept = λ own other waits last at. inv.kept own other waits last (sym same ∙ at);
      replied = λ last d s at is. so.kept last d s at is;
    }
    by (inr anew) = record {
      plain = inv.plain;
      good = inv.good;
      ordered = inv.ordered;
      behind = λ last at pdu stands other t brings also. let named = name last at in let few = first.front anew.source end pdu stands other t brings also in omega (arith, named, few);
      answered = λ i d s is. answered i d s (either i d s is);
      latest = λ i d s is. latest (λ j e t old. let (last, at, few) = inv.latest j e t old in let less = first.behind last at anew.source end in (it, anew.after, omega (arith, few, less))) i d s (either i d s is);
      below = λ last at. let named = name last at in let under = (first.good anew.source end).below in omega (arith, named, under);
      least = λ last at own other waits. let named = name last at in let few = (first.good anew.source end).least own other waits in omega (arith, named, few);
      kept = kept;
      replied = λ last d s at is. so.kept last d s at is;
    }
      where
        end : IsEndOf command anew.source
        end = (anew.destination, anew.content_is)

        it : Remembered
        it = record { identifier = command.identifier; response = disconnection_answer (held_at anew.destination u) anew.destination anew.source }

        it_is : (last : Remembered) → w.memory.disconnection ≡ Some last → it ≡ last
        it_is last at = let both : Some it ≡ Some last = sym anew.after ∙ at in cc

        name : (last : Remembered) → w.memory.disconnection ≡ Some last → command.identifier ≡ last.identifier
        name last at = ap (λ (l : Remembered). l.identifier) (it_is last at)

        kept : (own : ℕ) (other : Command) → wants own v ≡ Some other → (last : Remembered) → w.memory.disconnection ≡ Some last → last.identifier ≡ other.identifier → Recalls (errands.Disconnection own) last.response
        kept own other waits last at named =
            let identified : command.identifier ≡ other.identifier = name last at ∙ named in
            let same : other ≡ command = (first.good anew.source end).same own other waits (sym identified) in
            let request : Wanting own v other = wanting own v other waits in
            let contents : disconnection_request request.peer own ≡ disconnection_request anew.destination anew.source = sym request.content_is ∙ (ap (λ (c : Command). c.content) same ∙ anew.content_is) in
            let mine : own ≡ anew.source = cc in
            let content_is : other.content ≡ disconnection_request anew.destination own = ap (λ (c : Command). c.content) same ∙ (anew.content_is ∙ ap (disconnection_request anew.destination) (sym mine)) in
            let has : HasPeer own (held_at anew.destination u) = there own other waits (λ earlier was again. anew.other earlier was (again ∙ sym identified)) anew.destination content_is in
            let response : disconnection_answer (held_at anew.destination u) anew.destination own ≡ last.response = ap (disconnection_answer (held_at anew.destination u) anew.destination) mine ∙ ap (λ (l : Remembered). l.response) (it_is last at) in
            subst (Recalls (errands.Disconnection own)) response (recalls_fresh (held_at anew.destination u) anew.destination own has)
