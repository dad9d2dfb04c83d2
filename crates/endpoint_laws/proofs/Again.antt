-- What is remembered of a request of a kind stays until another one of the kind comes in.
use Rattle.std.proofs.Common.{◌≡◌, ℕ, List, [], ◌∷◌, ◌++◌, fold, drop, Bool, true, false, cond, eqb, Option, Some, None, Ok, Err, refl, sym, ap, subst, ◌∙◌, ◌⊎◌, inl, inr}
use Rattle.std.specs.Prelude.{option_map}
use Rattle.std.specs.List.{AllByRecursion}
use Rattle.std.proofs.lemmas.Bool.{eqb-true}
use Rattle.std.proofs.lemmas.List.Sums.{fold-append}
use Rattle.channel_laws.specs.acl_fragments.specs.Pieces.{channel_of}
use Rattle.channel_laws.specs.l2cap_signal.specs.Commands.{Command, Content, reject, connection_request, connection_response, configuration_request, configuration_response, disconnection_request, disconnection_response, echo_request, echo_response, information_request, information_response}
use Rattle.channel_laws.specs.l2cap_signal.specs.Reading.{Answer as Read, answers}
use Rattle.channel_laws.specs.l2cap_signal.specs.declared.refusal.SignalRefusal.TheVariants.{ZeroIdentifier, BadLength, UnknownCode, AboveMtu}
use Rattle.channel_laws.specs.channel_model.specs.declared.request_kind.RequestKind.{RequestKind}
use Rattle.channel_laws.specs.channel_model.specs.declared.request_kind.RequestKind.TheVariants as kinds
use Rattle.channel_laws.specs.channel_model.specs.Value.{Remembered, Memory, Channels}
use Rattle.channel_laws.specs.channel_model.specs.Policies.{Policy}
use Rattle.channel_laws.specs.channel_model.specs.Changing.{held_at}
use Rattle.channel_laws.specs.channel_model.specs.Answers.{kind_of_code, remembered, with_remembered, not_understood, too_long, answer_to}
use Rattle.channel_laws.specs.channel_model.specs.Following.{follows, remembers, says, can_say, hears_new, hears_again, hears_kind, hears_request}
use Rattle.channel_laws.specs.channel_model.specs.Hearing.{hears_malformed, is_response_code, is_kind, hears_unread, hears_command, hears_commands}
use Rattle.channel_laws.specs.channel_model.specs.Carrying.{takes}
use Rattle.channel_laws.specs.channel_model.specs.Responses.{features_in}
use Rattle.channel_laws.specs.channel_model.proofs.Lookups.{eqb-same}
use Rattle.channel_laws.specs.OwnTalk.{response_by, response_as, response_malformed, response_unread, command_if, reply_to}
use Rattle.channel_laws.specs.Runs.{Occurrence, Comes, Connects, AsksFeatures, Disconnects, Sends, Gives, Fires, Tells, value_after, Run, new_link, run_on, run_of}
use Rattle.channel_laws.proofs.Conversing.{says_memory, features_memory, single_memory}
use Rattle.channel_laws.proofs.Lasting.{follows-lasts, grant-lasts, response-lasts, end-lasts, takes-lasts}
use Rattle.channel_laws.proofs.Recalling.{said_memory, can_reply, fired_memory}
use Rattle.endpoint_laws.specs.Again.{request_with, request_unread, request_in, IsNoOther, NoOtherComes, LaterRepeatsAreAnswered}

-- ---- a request, as it is heard and replied to

record IsRequest (policy : Policy) (one : Read) (kind : RequestKind) (identifier : ℕ) (v : Channels) : Type 0 where
  fresh : Option Content
  more : Channels → Channels
  keeps : (u : Channels) → (more u).memory ≡ u.memory
  heard_is : hears_command policy one v ≡ hears_request kind identifier fresh more v
  reply_is : reply_to policy one v ≡ command_if identifier (response_as kind identifier fresh v)

abbrev IsHeard : Policy → Read → Channels → Type 0
IsHeard policy one v = ((kind : RequestKind) (identifier : ℕ) → request_in one ≡ Some (kind, identifier) → IsRequest policy one kind identifier v) × (request_in one ≡ None → (hears_command policy one v).memory ≡ v.memory)

asks_so : (policy : Policy) (content : Content) (kind : RequestKind) (identifier : ℕ) (v : Channels) → (let command : Command = record { identifier = identifier; content = content } in
    hears_command policy (Ok command) v ≡ hears_request kind identifier (answer_to policy content v) (follows policy content) v → reply_to policy (Ok command) v ≡ command_if identifier (response_as kind identifier (answer_to policy content v) v)
    → (k : RequestKind) (n : ℕ) → ◌≡◌ {A = Option (RequestKind × ℕ)} (Some (kind, identifier)) (Some (k, n)) → IsRequest policy (Ok command) k n v)
asks_so policy content kind identifier v heard reply k n is =
    let both : ◌≡◌ {A = RequestKind × ℕ} (kind, identifier) (k, n) = cc in
    let command : Command = record { identifier = identifier; content = content } in
    subst (λ (p : RequestKind × ℕ). IsRequest policy (Ok command) p.0 p.1 v) both
    (record { fresh = answer_to policy content v; more = follows policy content; keeps = λ u. (follows-lasts policy content u).1; heard_is = heard; reply_is = reply })

content_heard : (policy : Policy) (identifier : ℕ) (content : Content) (v : Channels) → (let command : Command = record { identifier = identifier; content = content } in IsHeard policy (Ok command) v)
content_heard policy identifier (reject reason rest) v = (λ kind n is. cc, λ none. features_memory identifier None v)
content_heard policy identifier (connection_request psm source) v = (asks_so policy (connection_request psm source) kinds.Connection identifier v refl refl, λ none. cc)
content_heard policy identifier (connection_response destination source answer status) v = (λ kind n is. cc, λ none. (grant-lasts v (held_at source v) policy identifier destination answer).1)
content_heard policy identifier (configuration_request destination flags options) v = (asks_so policy (configuration_request destination flags options) kinds.Configuration identifier v refl refl, λ none. cc)
content_heard policy identifier (configuration_response source flags answer options) v = (λ kind n is. cc, λ none. (response-lasts v (held_at source v) policy identifier answer options).1)
content_heard policy identifier (disconnection_request destination source) v = (asks_so policy (disconnection_request destination source) kinds.Disconnection identifier v refl refl, λ none. cc)
content_heard policy identifier (disconnection_response destination source) v = (λ kind n is. cc, λ none. (end-lasts v (held_at source v) destination).1)
content_heard policy identifier (echo_request octets) v = (asks_so policy (echo_request octets) kinds.Echo identifier v refl refl, λ none. cc)
content_heard policy identifier (echo_response octets) v = (λ kind n is. cc, λ none. refl)
content_heard policy identifier (information_request kind) v = (asks_so policy (information_request kind) kinds.Information identifier v refl refl, λ none. cc)
content_heard policy identifier (information_response kind answer rest) v = (λ k n is. cc, λ none. features_memory identifier (features_in kind answer rest) v)

-- ---- one that cannot be read

no_response : (code : ℕ) (kind : RequestKind) → kind_of_code code ≡ Some kind → is_response_code code ≡ false
no_response code kind is = by (eqb code 0x02) (eqb code 0x04) (eqb code 0x06) (eqb code 0x08) (eqb code 0x0A) refl refl refl refl refl is
  where
    at : (n : ℕ) → eqb code n ≡ true → is_response_code n ≡ false → is_response_code code ≡ false
    at n same none = ap is_response_code (eqb-true code n same) ∙ none

    by : (a b c d e : Bool) → eqb code 0x02 ≡ a → eqb code 0x04 ≡ b → eqb code 0x06 ≡ c → eqb code 0x08 ≡ d → eqb code 0x0A ≡ e
        → cond a (Some kinds.Connection) (cond b (Some kinds.Configuration) (cond c (Some kinds.Disconnection) (cond d (Some kinds.Echo) (cond e (Some kinds.Information) None)))) ≡ Some kind → is_response_code code ≡ false
    by true b c d e at_a at_b at_c at_d at_e has = at 0x02 at_a refl
    by false true c d e at_a at_b at_c at_d at_e has = at 0x04 at_b refl
    by false false true d e at_a at_b at_c at_d at_e has = at 0x06 at_c refl
    by false false false true e at_a at_b at_c at_d at_e has = at 0x08 at_d refl
    by false false false false true at_a at_b at_c at_d at_e has = at 0x0A at_e refl
    by false false false false false at_a at_b at_c at_d at_e has = cc

unread_asks : (policy : Policy) (one : Read) (code identifier : ℕ) (v : Channels) → hears_command policy one v ≡ hears_unread code identifier v → reply_to policy one v ≡ command_if identifier (response_unread code identifier v)
    → (kind : RequestKind) (n : ℕ) → request_unread code identifier ≡ Some (kind, n) → IsRequest policy one kind n v
unread_asks policy one code identifier v heard reply kind n is = by (eqb identifier 0) refl (kind_of_code code) refl is
  where
    by : (zero : Bool) → eqb identifier 0 ≡ zero → (found : Option RequestKind) → kind_of_code code ≡ found → cond zero None (request_with found identifier) ≡ Some (kind, n) → IsRequest policy one kind n v
    by true zero found at has = cc
    by false zero None at has = cc
    by false zero (Some k) at has =
        let both : ◌≡◌ {A = RequestKind × ℕ} (k, identifier) (kind, n) = cc in
        let odd : is_response_code code ≡ false = no_response code k at in
        subst (λ (p : RequestKind × ℕ). IsRequest policy one p.0 p.1 v) both
        (record {
          fresh = Some not_understood;
          more = λ w. w;
          keeps = λ u. refl;
          heard_is = heard ∙ (ap (λ b. cond b v (cond (is_response_code code) v (cond (is_kind (kind_of_code code)) (hears_malformed (kind_of_code code) identifier v) (hears_again identifier (Some not_understood) v)))) zero
              ∙ (ap (λ b. cond b v (cond (is_kind (kind_of_code code)) (hears_malformed (kind_of_code code) identifier v) (hears_again identifier (Some not_understood) v))) odd
              ∙ ap (λ f. cond (is_kind f) (hears_malformed f identifier v) (hears_again identifier (Some not_understood) v)) at));
          reply_is = reply ∙ ap (command_if identifier) (ap (λ b. cond b None (cond (is_response_code code) None (response_malformed (kind_of_code code) identifier v))) zero
              ∙ (ap (λ b. cond b None (response_malformed (kind_of_code code) identifier v)) odd ∙ ap (λ f. response_malformed f identifier v) at));
        })

unread_same : (code identifier : ℕ) (v : Channels) → request_unread code identifier ≡ None → (hears_unread code identifier v).memory ≡ v.memory
unread_same code identifier v none = by (eqb identifier 0) (is_response_code code) (kind_of_code code) none
  where
    by : (zero odd : Bool) (found : Option RequestKind) → cond zero None (request_with found identifier) ≡ None
        → (cond zero v (cond odd v (cond (is_kind found) (hears_malformed found identifier v) (hears_again identifier (Some not_understood) v)))).memory ≡ v.memory
    by true odd found is = refl
    by false true found is = refl
    by false false None is = said_memory identifier (Some not_understood) v (can_say (Some not_understood) v)
    by false false (Some kind) is = cc

heard : (policy : Policy) (one : Read) (v : Channels) → IsHeard policy one v
heard policy (Ok command) v = content_heard policy command.identifier command.content v
heard policy (Err (ZeroIdentifier code identifier)) v = (λ kind n is. cc, λ none. refl)
heard policy (Err (BadLength code None)) v = (λ kind n is. cc, λ none. refl)
heard policy (Err (BadLength code (Some identifier))) v = (unread_asks policy (Err (BadLength code (Some identifier))) code identifier v refl refl, unread_same code identifier v)
heard policy (Err (UnknownCode code None)) v = (λ kind n is. cc, λ none. refl)
heard policy (Err (UnknownCode code (Some identifier))) v = (unread_asks policy (Err (UnknownCode code (Some identifier))) code identifier v refl refl, unread_same code identifier v)
heard policy (Err (AboveMtu code None)) v = (λ kind n is. cc, λ none. refl)
heard policy (Err (AboveMtu code (Some identifier))) v = (λ kind n is. cc, λ none. by (eqb identifier 0))
  where
    by : (zero : Bool) → (cond zero v (hears_again identifier (Some too_long) v)).memory ≡ v.memory
    by true = refl
    by false = said_memory identifier (Some too_long) v (can_say (Some too_long) v)

-- ---- what is remembered

-- the last request of the kind had the identifier, and got this response
record Retains (kind : RequestKind) (identifier : ℕ) (response : Option Content) (memory : Memory) : Type 0 where
  last : Remembered
  found : remembered kind memory ≡ Some last
  named : last.identifier ≡ identifier
  response_is : last.response ≡ response

-- the kind, or one of which nothing is remembered there
abbrev Apart : (kind other : RequestKind) → Type 0
Apart kind other = (other ≡ kind) ⊎ ((last : Remembered) (memory : Memory) → remembered kind (with_remembered other last memory) ≡ remembered kind memory)

apart : (kind other : RequestKind) → Apart kind other
apart kinds.Connection kinds.Connection = inl refl
apart kinds.Connection kinds.Configuration = inr (λ last memory. refl)
apart kinds.Connection kinds.Disconnection = inr (λ last memory. refl)
apart kinds.Connection kinds.Echo = inr (λ last memory. refl)
apart kinds.Connection kinds.Information = inr (λ last memory. refl)
apart kinds.Configuration kinds.Connection = inr (λ last memory. refl)
apart kinds.Configuration kinds.Configuration = inl refl
apart kinds.Configuration kinds.Disconnection = inr (λ last memory. refl)
apart kinds.Configuration kinds.Echo = inr (λ last memory. refl)
apart kinds.Configuration kinds.Information = inr (λ last memory. refl)
apart kinds.Disconnection kinds.Connection = inr (λ last memory. refl)
apart kinds.Disconnection kinds.Configuration = inr (λ last memory. refl)
apart kinds.Disconnection kinds.Disconnection = inl refl
apart kinds.Disconnection kinds.Echo = inr (λ last memory. refl)
apart kinds.Disconnection kinds.Information = inr (λ last memory. refl)
apart kinds.Echo kinds.Connection = inr (λ last memory. refl)
apart kinds.Echo kinds.Configuration = inr (λ last memory. refl)
apart kinds.Echo kinds.Disconnection = inr (λ last memory. refl)
apart kinds.Echo kinds.Echo = inl refl
apart kinds.Echo kinds.Information = inr (λ last memory. refl)
apart kinds.Information kinds.Connection = inr (λ last memory. refl)
apart kinds.Information kinds.Configuration = inr (λ last memory. refl)
apart kinds.Information kinds.Disconnection = inr (λ last memory. refl)
apart kinds.Information kinds.Echo = inr (λ last memory. refl)
apart kinds.Information kinds.Information = inl refl

now_remembered : (kind : RequestKind) (last : Remembered) (memory : Memory) → remembered kind (with_remembered kind last memory) ≡ Some last
now_remembered kinds.Connection last memory = refl
now_remembered kinds.Configuration last memory = refl
now_remembered kinds.Disconnection last memory = refl
now_remembered kinds.Echo last memory = refl
now_remembered kinds.Information last memory = refl

-- a request for whose response there is room is remembered with it
now_retains : (kind : RequestKind) (identifier : ℕ) (fresh : Option Content) (more : Channels → Channels) (v : Channels) → ((u : Channels) → (more u).memory ≡ u.memory) → can_say (response_as kind identifier fresh v) v ≡ true
    → Retains kind identifier (response_as kind identifier fresh v) (hears_request kind identifier fresh more v).memory
now_retains kind identifier fresh more v keeps can = by (remembered kind v.memory) refl can
  where
    new : (room : Bool) → room ≡ true → Retains kind identifier fresh (cond room (more (says identifier fresh (remembers kind identifier fresh v))) v).memory
    new true is =
        let u : Channels = remembers kind identifier fresh v in
        let it : Remembered = record { identifier = identifier; response = fresh } in
        record { last = it; found = ap (remembered kind) (keeps (says identifier fresh u) ∙ says_memory identifier fresh u) ∙ now_remembered kind it v.memory; named = refl; response_is = refl }
    new false is = cc

    by : (last : Option Remembered) → remembered kind v.memory ≡ last → can_say (response_by last identifier fresh) v ≡ true → Retains kind identifier (response_by last identifier fresh) (hears_kind last kind identifier fresh more v).memory
    by None is room = new (can_say fresh v) room
    by (Some last) is room = at (eqb last.identifier identifier) refl room
      where
        at : (same : Bool) → eqb last.identifier identifier ≡ same → can_say (cond same last.response fresh) v ≡ true
            → Retains kind identifier (cond same last.response fresh) (cond same (hears_again identifier last.response v) (hears_new kind identifier fresh more v)).memory
        at true same able = record { last = last; found = ap (remembered kind) (said_memory identifier last.response v (can_say last.response v)) ∙ is; named = eqb-true last.identifier identifier same; response_is = refl }
        at false same able = new (can_say fresh v) able

-- a request of another kind, or with the identifier, leaves it
request_keeps : (kind other : RequestKind) (identifier n : ℕ) (response fresh : Option Content) (more : Channels → Channels) (v : Channels) → ((u : Channels) → (more u).memory ≡ u.memory) → (other ≡ kind → n ≡ identifier)
    → Retains kind identifier response v.memory → remembered kind (hears_request other n fresh more v).memory ≡ remembered kind v.memory
request_keeps kind other identifier n response fresh more v keeps only retains = by (apart kind other)
  where
    again : (last : Remembered) → (hears_again n last.response v).memory ≡ v.memory
    again last = said_memory n last.response v (can_say last.response v)

    by : Apart kind other → remembered kind (hears_kind (remembered other v.memory) other n fresh more v).memory ≡ remembered kind v.memory
    by (inl same) =
        let last_is : remembered other v.memory ≡ Some retains.last = ap (λ k. remembered k v.memory) same ∙ retains.found in
        let named : eqb retains.last.identifier n ≡ true = ap (λ m. eqb m n) (retains.named ∙ sym (only same)) ∙ eqb-same n in
        ap (λ l. remembered kind (hears_kind l other n fresh more v).memory) last_is
        ∙ (ap (λ b. remembered kind (cond b (hears_again n retains.last.response v) (hears_new other n fresh more v)).memory) named ∙ ap (remembered kind) (again retains.last))
    by (inr others) = at (remembered other v.memory)
      where
        new : (room : Bool) → remembered kind (cond room (more (says n fresh (remembers other n fresh v))) v).memory ≡ remembered kind v.memory
        new true =
            let u : Channels = remembers other n fresh v in
            ap (remembered kind) (keeps (says n fresh u) ∙ says_memory n fresh u) ∙ others (record { identifier = n; response = fresh }) v.memory
        new false = refl

        at : (last : Option Remembered) → remembered kind (hears_kind last other n fresh more v).memory ≡ remembered kind v.memory
        at None = new (can_say fresh v)
        at (Some last) = with_it (eqb last.identifier n)
          where
            with_it : (same : Bool) → remembered kind (cond same (hears_again n last.response v) (hears_new other n fresh more v)).memory ≡ remembered kind v.memory
            with_it true = ap (remembered kind) (again last)
            with_it false = new (can_say fresh v)

still : (kind : RequestKind) (identifier : ℕ) (response : Option Content) (before after : Memory) → remembered kind after ≡ remembered kind before → Retains kind identifier response before → Retains kind identifier response after
still kind identifier response before after same retains = record { last = retains.last; found = same ∙ retains.found; named = retains.named; response_is = retains.response_is }

-- ---- whatever happens

command_keeps : (policy : Policy) (kind : RequestKind) (identifier : ℕ) (response : Option Content) (one : Read) (v : Channels) → IsNoOther kind identifier one → Retains kind identifier response v.memory → Retains kind identifier response (hears_command policy one v).memory
command_keeps policy kind identifier response one v only retains = still kind identifier response v.memory (hears_command policy one v).memory (by (request_in one) refl) retains
  where
    by : (found : Option (RequestKind × ℕ)) → request_in one ≡ found → remembered kind (hears_command policy one v).memory ≡ remembered kind v.memory
    by None is = ap (remembered kind) ((heard policy one v).1 is)
    by (Some (other, n)) is =
        let asks = (heard policy one v).0 other n is in
        ap (λ w. remembered kind w.memory) asks.heard_is
        ∙ request_keeps kind other identifier n response asks.fresh asks.more v asks.keeps (λ same. only n (is ∙ ap (λ k. Some (k, n)) same)) retains

commands_keep : (policy : Policy) (kind : RequestKind) (identifier : ℕ) (response : Option Content) (given : List Read) (v : Channels) → AllByRecursion (IsNoOther kind identifier) given → Retains kind identifier response v.memory → Retains kind identifier response (hears_commands policy given v).memory
commands_keep policy kind identifier response [] v all retains = retains
commands_keep policy kind identifier response (one ∷ given) v (now, later) retains = commands_keep policy kind identifier response given (hears_command policy one v) later (command_keeps policy kind identifier response one v now retains)

one_keeps : (policy : Policy) (kind : RequestKind) (identifier : ℕ) (response : Option Content) (more : Occurrence) (v : Channels) → NoOtherComes kind identifier more → Retains kind identifier response v.memory → Retains kind identifier response (value_after policy more v).memory
one_keeps policy kind identifier response more v none retains = by more none
  where
    same : (one : Occurrence) → (value_after policy one v).memory ≡ v.memory → Retains kind identifier response (value_after policy one v).memory
    same one is = subst (Retains kind identifier response) (sym is) retains

    by : (one : Occurrence) → NoOtherComes kind identifier one → Retains kind identifier response (value_after policy one v).memory
    by (Comes pdu) only = at (eqb (channel_of pdu) 0x0001) refl
      where
        at : (signals : Bool) → eqb (channel_of pdu) 0x0001 ≡ signals → Retains kind identifier response (cond signals (hears_commands policy (answers (drop 4 pdu)) v) (takes (channel_of pdu) pdu v)).memory
        at true is = commands_keep policy kind identifier response (answers (drop 4 pdu)) v (only is) retains
        at false is = subst (Retains kind identifier response) (sym (takes-lasts (channel_of pdu) pdu v).1) retains
    by (Connects psm) only = same (Connects psm) (single_memory policy (Connects psm) v refl)
    by AsksFeatures only = same AsksFeatures (single_memory policy AsksFeatures v refl)
    by (Disconnects own) only = same (Disconnects own) (single_memory policy (Disconnects own) v refl)
    by (Sends own sdu) only = same (Sends own sdu) (single_memory policy (Sends own sdu) v refl)
    by (Gives pdu) only = same (Gives pdu) (single_memory policy (Gives pdu) v refl)
    by Fires only = same Fires (fired_memory policy v)
    by Tells only = same Tells (single_memory policy Tells v refl)

all_keep : (policy : Policy) (kind : RequestKind) (identifier : ℕ) (response : Option Content) (between : List Occurrence) (run : Run) → AllByRecursion (NoOtherComes kind identifier) between → Retains kind identifier response run.value.memory
    → Retains kind identifier response (fold (run_on policy) run between).value.memory
all_keep policy kind identifier response [] run all retains = retains
all_keep policy kind identifier response (more ∷ between) run (now, later) retains = all_keep policy kind identifier response between (run_on policy run more) later (one_keeps policy kind identifier response more run.value now retains)

-- ---- it comes again

pub later-repeats_are_answered : LaterRepeatsAreAnswered
later-repeats_are_answered policy list between pdu one again kind identifier signals read first second can none =
    repeats.reply_is
    ∙ (ap (λ l. command_if identifier (response_by l identifier repeats.fresh)) recalled.found
    ∙ (ap (λ b. command_if identifier (cond b recalled.last.response repeats.fresh)) (ap (λ n. eqb n identifier) recalled.named ∙ eqb-same identifier)
    ∙ (ap (command_if identifier) recalled.response_is ∙ sym asks.reply_is)))
  where
    v : Channels
    v = (run_of policy list).value

    w : Channels
    w = (run_of policy (list ++ Comes pdu ∷ between)).value

    asks : IsRequest policy one kind identifier v
    asks = (heard policy one v).0 kind identifier first

    repeats : IsRequest policy again kind identifier w
    repeats = (heard policy again w).0 kind identifier second

    response : Option Content
    response = response_as kind identifier asks.fresh v

    room : can_say response v ≡ true
    room = sym (ap (λ c. can_say (option_map (λ (c : Command). c.content) c) v) asks.reply_is ∙ can_reply identifier response v) ∙ can

    heard_is : (value_after policy (Comes pdu) v) ≡ hears_command policy one v
    heard_is = ap (λ b. cond b (hears_commands policy (answers (drop 4 pdu)) v) (takes (channel_of pdu) pdu v)) signals ∙ ap (λ given. hears_commands policy given v) read

    now : Retains kind identifier response (value_after policy (Comes pdu) v).memory
    now = subst (λ u. Retains kind identifier response u.memory) (sym (heard_is ∙ asks.heard_is)) (now_retains kind identifier asks.fresh asks.more v asks.keeps room)

    recalled : Retains kind identifier response w.memory
    recalled = subst (λ (run : Run). Retains kind identifier response run.value.memory) (sym (fold-append (run_on policy) new_link list (Comes pdu ∷ between)))
        (all_keep policy kind identifier response between (run_on policy (run_of policy list) (Comes pdu)) none now)
