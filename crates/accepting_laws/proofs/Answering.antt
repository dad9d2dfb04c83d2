-- All responses to requests for options succeed where each new request does.
use Rattle.std.proofs.Common.{◌≡◌, ℕ, List, [], ◌∷◌, ◌++◌, map, drop, Bool, true, false, cond, eqb, Option, Some, None, Ok, refl, sym, ap, subst, ◌∙◌, ◌⊎◌, inl, inr, append_assoc, append-nil}
use Rattle.std.specs.Prelude.{option_map, option_to_list}
use Rattle.std.proofs.lemmas.List.Sums.{fold-append}
use Rattle.channel_laws.specs.acl_fragments.specs.Pieces.{channel_of}
use Rattle.channel_laws.specs.capture.specs.declared.flow.Flow.TheVariants.{Into}
use Rattle.channel_laws.specs.capture.specs.Histories.{EachAfter}
use Rattle.channel_laws.specs.l2cap_signal.specs.Commands.{Content, Command, reject, connection_request, connection_response, configuration_request, configuration_response, disconnection_request, disconnection_response, echo_request, echo_response, information_request, information_response}
use Rattle.channel_laws.specs.l2cap_signal.specs.Reading.{Answer as Read, answers}
use Rattle.channel_laws.specs.link_talk.specs.Channels.{reading}
use Rattle.channel_laws.specs.link_talk.specs.Sayings.{Saying, Carried, GaveUp}
use Rattle.channel_laws.specs.link_talk.specs.Sayings as sayings
use Rattle.channel_laws.specs.channel_model.specs.declared.errand.Errand.TheVariants as errands
use Rattle.channel_laws.specs.channel_model.specs.declared.request_kind.RequestKind.TheVariants as kinds
use Rattle.channel_laws.specs.channel_model.specs.Answers.{answer_to}
use Rattle.channel_laws.specs.channel_model.specs.Calls.{carrier_at, connected, asks_features, disconnected}
use Rattle.channel_laws.specs.channel_model.specs.Carrying.{takes}
use Rattle.channel_laws.specs.channel_model.specs.Changing.{held_at}
use Rattle.channel_laws.specs.channel_model.specs.Following.{can_say, follows, remembers, says, hears_again, hears_new, hears_kind}
use Rattle.channel_laws.specs.channel_model.specs.Giving.{Given, Signal, Whole, Framed, next_given}
use Rattle.channel_laws.specs.channel_model.specs.Hearing.{hears_content, hears_commands}
use Rattle.channel_laws.specs.channel_model.specs.Policies.{Policy}
use Rattle.channel_laws.specs.channel_model.specs.Timing.{times_held, times_end, times_features}
use Rattle.channel_laws.specs.channel_model.specs.Value.{Request, Carrier, Plain, Retransmitting, Held, Remembered, Memory, Channels}
use Rattle.channel_laws.specs.channel_model.proofs.Lookups.{eqb-same}
use Rattle.channel_laws.specs.OwnTalk.{spoken, command_with, command_if, response_by, response_to, exchanged, asked_between, said_with_all}
use Rattle.channel_laws.specs.Runs.{Occurrence, Comes, Connects, AsksFeatures, Disconnects, Sends, Gives, Fires, Tells, features_given_up, said_again, said_on_firing, said_by_channel, fired_channel, said_by_channels, said_by_carrier, said_as, said_in, value_after, Run, run_on, new_link, run_of}
use Rattle.channel_laws.specs.Signals.{StandsIn}
use Rattle.channel_laws.proofs.Conversing.{says_memory, single_memory}
use Rattle.channel_laws.proofs.Lasting.{follows-lasts, takes-lasts}
use Rattle.channel_laws.proofs.Mild.{is_about_options}
use Rattle.channel_laws.proofs.PlainReplies.{plain_response, some_plain, ended_plain, informed_plain}
use Rattle.channel_laws.proofs.Recalling.{fired_memory}
use Rattle.channel_laws.proofs.Running.{all-sound}
use Rattle.channel_laws.proofs.Saying.{stands-either}
use Rattle.channel_laws.proofs.Sound.{Sound}
use Rattle.channel_laws.proofs.Words.{Words, words-asked, words-again, words-left, words-firing}
use Rattle.configuration_laws.proofs.Hearing.{Heard, Quiet, Other, Again, Anew, heard}
use Rattle.disconnection_laws.proofs.Ending.{command_same}
use Rattle.lasting_laws.specs.Ends.{AnswersSuccess}
use Rattle.accepting_laws.specs.Anew.{Succeeds, SucceedsIn, NewSuccessesSuffice}

-- ---- what is said

-- where it is a response to a request for options, it is success
abbrev pub IsSuccess : Content → Type 0
IsSuccess content = (peer flags result : ℕ) (options : List ℕ) → content ≡ configuration_response peer flags result options → result ≡ 0

abbrev pub AllSuccess : Option Content → Type 0
AllSuccess response = (content : Content) → response ≡ Some content → IsSuccess content

plain_success : (content : Content) → is_about_options content ≡ false → IsSuccess content
plain_success content plain peer flags result options same = let never : true ≡ false = sym (ap is_about_options same) ∙ plain in absurd cc

no_saying : AnswersSuccess []
no_saying identifier peer flags result options is = elim is [ ]

both_succeed : (xs ys : List Saying) → AnswersSuccess xs → AnswersSuccess ys → AnswersSuccess (xs ++ ys)
both_succeed xs ys one other identifier peer flags result options is = by (stands-either (spoken (command_with identifier (configuration_response peer flags result options))) xs ys is)
  where
    it : Saying
    it = spoken (command_with identifier (configuration_response peer flags result options))

    by : StandsIn it xs ⊎ StandsIn it ys → result ≡ 0
    by (inl left) = one identifier peer flags result options left
    by (inr right) = other identifier peer flags result options right

other_saying : (said : Saying) → ((command : Command) → said ≡ spoken command → ⊥) → AnswersSuccess (said ∷ [])
other_saying said apart identifier peer flags result options (inl same) = absurd (apart _ same)
other_saying said apart identifier peer flags result options (inr none) = elim none [ ]

said_success : (n : ℕ) (content : Content) → IsSuccess content → AnswersSuccess (spoken (command_with n content) ∷ [])
said_success n content is identifier peer flags result options (inl same) =
    is peer flags result options (ap (λ (c : Command). c.content) (command_same (command_with n content) (command_with identifier (configuration_response peer flags result options)) same))
said_success n content is identifier peer flags result options (inr none) = elim none [ ]

own_words : (w : Channels) → Words w AnswersSuccess
own_words w = record {
  none = no_saying;
  both = both_succeed;
  calls = λ own held request at is. said_success request.identifier _ (plain_success _ refl);
  wishes = λ own peer held setup request options at has to is. said_success request.identifier _ (plain_success _ refl);
  ends = λ identifier peer own. said_success identifier _ (plain_success _ refl);
  asks = λ request is. said_success request.identifier _ (plain_success _ refl);
  lets_call = λ identifier own. other_saying _ (λ c same. cc);
  lets_end = λ own peer. other_saying _ (λ c same. cc);
}

features_succeed : (before after : Option Request) → AnswersSuccess (features_given_up before after)
features_succeed None after = no_saying
features_succeed (Some request) None = other_saying _ (λ c same. cc)
features_succeed (Some request) (Some other) = no_saying

sent_succeed : (carrier : Option Carrier) (peer : ℕ) (sdu : List ℕ) → AnswersSuccess (said_by_carrier carrier peer sdu)
sent_succeed None peer sdu = no_saying
sent_succeed (Some (Plain agreed None)) peer sdu = other_saying _ (λ c same. cc)
sent_succeed (Some (Plain agreed (Some waiting))) peer sdu = no_saying
sent_succeed (Some (Retransmitting machine)) peer sdu = no_saying

given_succeed : (given : Option Given) (pdu : List ℕ) → AnswersSuccess (said_as given pdu)
given_succeed None pdu = no_saying
given_succeed (Some (Signal command)) pdu = no_saying
given_succeed (Some (Whole other sdu)) pdu = no_saying
given_succeed (Some (Framed other frame)) pdu = other_saying _ (λ c same. cc)

fired_succeed : (tries : ℕ) (owns : List ℕ) (v : Channels) → AnswersSuccess (said_by_channels tries owns v)
fired_succeed tries [] v =
    let w : Channels = times_features v.features tries v in
    both_succeed (said_again errands.Features v w) (features_given_up v.features w.features) (words-again w AnswersSuccess (own_words w) errands.Features v) (features_succeed v.features w.features)
fired_succeed tries (own ∷ owns) v =
    let between : Channels = times_held (held_at own v) tries v in
    let after : Channels = times_end (held_at own between) tries between in
    both_succeed (said_by_channel tries own v) (said_by_channels tries owns (fired_channel tries own v))
    (both_succeed (said_on_firing own v between) (said_on_firing own between after) (words-firing between AnswersSuccess (own_words between) own v) (words-firing after AnswersSuccess (own_words after) own between))
    (fired_succeed tries owns (fired_channel tries own v))

exchange_succeeds : (one : Read) (n : ℕ) (response : Option Content) (v : Channels) → AllSuccess response → AnswersSuccess (exchanged one (command_if n response) v)
exchange_succeeds one n response v all = by (can_say (option_map (λ (c : Command). c.content) (command_if n response)) v)
  where
    replied : (given : Option Content) → AllSuccess given → AnswersSuccess (map spoken (option_to_list (command_if n given)))
    replied None so = no_saying
    replied (Some content) so = said_success n content (so content refl)

    by : (b : Bool) → AnswersSuccess (cond b (sayings.Command Into one ∷ map spoken (option_to_list (command_if n response))) [])
    by true = both_succeed (sayings.Command Into one ∷ []) (map spoken (option_to_list (command_if n response))) (other_saying _ (λ c same. cc)) (replied response all)
    by false = no_saying

-- ---- what is remembered

abbrev pub LastSucceeds : Option Remembered → Type 0
LastSucceeds last = (l : Remembered) → last ≡ Some l → AllSuccess l.response

pub record Holds (talk : List Saying) (v : Channels) : Type 0 where
  pub said : AnswersSuccess talk
  pub last : LastSucceeds v.memory.configuration

some_last : (a b : Remembered) → Some a ≡ Some b → a ≡ b
some_last a b is = cc

-- a command comes in, where a new request for options succeeds
module _ (policy : Policy) (past : List Saying) (v : Channels) (sound : Sound policy (reading past) v) (n : ℕ) (remembered_so : LastSucceeds v.memory.configuration) where
  abbrev NewSucceed : Content → Type 0
  NewSucceed content = (own flags : ℕ) (options : List ℕ) → content ≡ configuration_request own flags options → ((last : Remembered) → v.memory.configuration ≡ Some last → last.identifier ≡ n → ⊥) → AllSuccess (answer_to policy content v)

  abbrev IsNew : Option Remembered → Type 0
  IsNew last = (l : Remembered) → last ≡ Some l → l.identifier ≡ n → ⊥

  other_new : (l : Remembered) → eqb l.identifier n ≡ false → IsNew (Some l)
  other_new l away m is same = let one : l ≡ m = some_last l m is in let never : true ≡ false = sym (ap (λ k. eqb k n) (ap (λ (x : Remembered). x.identifier) one ∙ same) ∙ eqb-same n) ∙ away in cc

  response_succeeds : (content : Content) → NewSucceed content → AllSuccess (response_to policy n content v)
  response_succeeds (reject reason rest) new content is = cc
  response_succeeds (connection_request psm source) new content is = plain_success content (plain_response policy (reading past) v sound kinds.Connection (λ same. cc) n _ (some_plain _ refl) content is)
  response_succeeds (connection_response destination source answer status) new content is = cc
  response_succeeds (configuration_request own flags options) new content is = by v.memory.configuration refl content is
    where
      fresh : Option Content
      fresh = answer_to policy (configuration_request own flags options) v

      by : (last : Option Remembered) → v.memory.configuration ≡ last → AllSuccess (response_by last n fresh)
      by None at = new own flags options refl (λ l is same. let never : None ≡ Some l = sym at ∙ is in cc)
      by (Some l) at = on (eqb l.identifier n) refl
        where
          on : (same : Bool) → eqb l.identifier n ≡ same → AllSuccess (cond same l.response fresh)
          on true is = remembered_so l at
          on false is = new own flags options refl (λ m found same. other_new l is m (sym at ∙ found) same)
  response_succeeds (configuration_response source flags answer options) new content is = cc
  response_succeeds (disconnection_request destination source) new content is =
      plain_success content (plain_response policy (reading past) v sound kinds.Disconnection (λ same. cc) n _ (ended_plain (held_at destination v) destination source) content is)
  response_succeeds (disconnection_response destination source) new content is = cc
  response_succeeds (echo_request octets) new content is = plain_success content (plain_response policy (reading past) v sound kinds.Echo (λ same. cc) n _ (some_plain _ refl) content is)
  response_succeeds (echo_response octets) new content is = cc
  response_succeeds (information_request kind) new content is = plain_success content (plain_response policy (reading past) v sound kinds.Information (λ same. cc) n _ (some_plain _ (informed_plain kind)) content is)
  response_succeeds (information_response kind answer rest) new content is = cc

  abbrev Remembers : Channels → Type 0
  Remembers w = LastSucceeds w.memory.configuration

  as_before : (w : Channels) → w.memory.configuration ≡ v.memory.configuration → Remembers w
  as_before w same l is = remembered_so l (sym same ∙ is)

  options_remembered : (own flags : ℕ) (options : List ℕ) → NewSucceed (configuration_request own flags options) → Remembers (hears_content policy n (configuration_request own flags options) v)
  options_remembered own flags options new = by v.memory.configuration refl
    where
      content : Content
      content = configuration_request own flags options

      fresh : Option Content
      fresh = answer_to policy content v

      u : Channels
      u = says n fresh (remembers kinds.Configuration n fresh v)

      kept : AllSuccess fresh → (can : Bool) → Remembers (cond can (follows policy content u) v)
      kept so false l is = remembered_so l is
      kept so true l is =
          let it : (follows policy content u).memory.configuration ≡ Some (record { identifier = n; response = fresh }) = ap (λ (m : Memory). m.configuration) ((follows-lasts policy content u).1 ∙ says_memory n fresh (remembers kinds.Configuration n fresh v)) in
          subst (λ (x : Remembered). AllSuccess x.response) (some_last _ l (sym it ∙ is)) so

      again : (response : Option Content) (can : Bool) → Remembers (cond can (says n response v) v)
      again response false = remembered_so
      again response true = as_before (says n response v) (ap (λ (m : Memory). m.configuration) (says_memory n response v))

      by : (last : Option Remembered) → v.memory.configuration ≡ last → Remembers (hears_kind last kinds.Configuration n fresh (follows policy content) v)
      by None at = kept (new own flags options refl (λ l is same. let never : None ≡ Some l = sym at ∙ is in cc)) (can_say fresh v)
      by (Some l) at = on (eqb l.identifier n) refl
        where
          on : (same : Bool) → eqb l.identifier n ≡ same → Remembers (cond same (hears_again n l.response v) (hears_new kinds.Configuration n fresh (follows policy content) v))
          on true is = again l.response (can_say l.response v)
          on false is = kept (new own flags options refl (λ m found same. other_new l is m (sym at ∙ found) same)) (can_say fresh v)

  other_remembered : (content : Content) → ((own flags : ℕ) (options : List ℕ) → content ≡ configuration_request own flags options → ⊥) → Remembers (hears_content policy n content v)
  other_remembered content apart = by (heard policy (reading past) v sound n content)
    where
      w : Channels
      w = hears_content policy n content v

      by : Heard policy v (hears_content policy n content v) n content → Remembers (hears_content policy n content v)
      by (Quiet same queue) = as_before w same
      by (Other same answer plain queue) = as_before w same
      by (Again same last at answer is queue) = as_before w same
      by (Anew own flags options is memory queue) = absurd (apart own flags options is)

  content_remembered : (content : Content) → NewSucceed content → Remembers (hears_content policy n content v)
  content_remembered (reject reason rest) new = other_remembered (reject reason rest) (λ o f os same. cc)
  content_remembered (connection_request psm source) new = other_remembered (connection_request psm source) (λ o f os same. cc)
  content_remembered (connection_response destination source answer status) new = other_remembered (connection_response destination source answer status) (λ o f os same. cc)
  content_remembered (configuration_request own flags options) new = options_remembered own flags options new
  content_remembered (configuration_response source flags answer options) new = other_remembered (configuration_response source flags answer options) (λ o f os same. cc)
  content_remembered (disconnection_request destination source) new = other_remembered (disconnection_request destination source) (λ o f os same. cc)
  content_remembered (disconnection_response destination source) new = other_remembered (disconnection_response destination source) (λ o f os same. cc)
  content_remembered (echo_request octets) new = other_remembered (echo_request octets) (λ o f os same. cc)
  content_remembered (echo_response octets) new = other_remembered (echo_response octets) (λ o f os same. cc)
  content_remembered (information_request kind) new = other_remembered (information_request kind) (λ o f os same. cc)
  content_remembered (information_response kind answer rest) new = other_remembered (information_response kind answer rest) (λ o f os same. cc)

-- ---- whatever happens

asked_succeed : (v w : Channels) → AnswersSuccess (asked_between v w)
asked_succeed v w = words-asked w AnswersSuccess (own_words w) v

quiet : (past said : List Saying) (v w : Channels) → AnswersSuccess said → w.memory ≡ v.memory → Holds past v → Holds (past ++ said) w
quiet past said v w so same holds = record { said = both_succeed past said holds.said so; last = λ l is. holds.last l (sym (ap (λ (m : Memory). m.configuration) same) ∙ is) }

comes : (policy : Policy) (past : List Saying) (v : Channels) (pdu : List ℕ) (signals : Bool) → Sound policy (reading past) v → (signals ≡ true → Succeeds policy pdu v) → Holds past v
    → Holds (past ++ cond signals (said_with_all policy (answers (drop 4 pdu)) v) (Carried Into pdu ∷ asked_between v (takes (channel_of pdu) pdu v))) (cond signals (hears_commands policy (answers (drop 4 pdu)) v) (takes (channel_of pdu) pdu v))
comes policy past v pdu false sound succeeds holds =
    let w : Channels = takes (channel_of pdu) pdu v in
    quiet past (Carried Into pdu ∷ asked_between v w) v w (both_succeed (Carried Into pdu ∷ []) (asked_between v w) (other_saying _ (λ c same. cc)) (asked_succeed v w)) (takes-lasts (channel_of pdu) pdu v).1 holds
comes policy past v pdu true sound succeeds holds = subst (λ (list : List Read). Holds (past ++ said_with_all policy list v) (hears_commands policy list v)) (sym it.is_one) now
  where
    it : Succeeds policy pdu v
    it = succeeds refl

    c : Command
    c = it.command

    new : NewSucceed policy past v sound c.identifier holds.last c.content
    new own flags options is anew content same peer more result given response =
        it.success own flags options is anew peer more result given (same ∙ ap Some response)

    w : Channels
    w = hears_content policy c.identifier c.content v

    reply : List Saying
    reply = exchanged (Ok c) (command_if c.identifier (response_to policy c.identifier c.content v)) v

    now : Holds (past ++ said_with_all policy (Ok c ∷ []) v) w
    now = record {
      said = both_succeed past ((reply ++ asked_between v w) ++ []) holds.said
          (both_succeed (reply ++ asked_between v w) [] (both_succeed reply (asked_between v w) (exchange_succeeds (Ok c) c.identifier _ v (response_succeeds policy past v sound c.identifier holds.last c.content new)) (asked_succeed v w)) no_saying);
      last = content_remembered policy past v sound c.identifier holds.last c.content new;
    }

pub step : (policy : Policy) (past : List Saying) (v : Channels) (more : Occurrence) → Sound policy (reading past) v → SucceedsIn policy more v → Holds past v → Holds (past ++ said_in policy more v) (value_after policy more v)
step policy past v (Comes pdu) sound so holds = comes policy past v pdu (eqb (channel_of pdu) 0x0001) sound so holds
step policy past v (Connects psm) sound so holds = quiet past _ v (connected psm v) (asked_succeed v (connected psm v)) (single_memory policy (Connects psm) v refl) holds
step policy past v AsksFeatures sound so holds = quiet past _ v (asks_features v) (asked_succeed v (asks_features v)) (single_memory policy AsksFeatures v refl) holds
step policy past v (Disconnects own) sound so holds = let w : Channels = disconnected own v in quiet past _ v w (words-left w AnswersSuccess (own_words w) own v) (single_memory policy (Disconnects own) v refl) holds
step policy past v (Sends own sdu) sound so holds = quiet past _ v (value_after policy (Sends own sdu) v) (sent_succeed (carrier_at own v) _ sdu) (single_memory policy (Sends own sdu) v refl) holds
step policy past v (Gives pdu) sound so holds = quiet past _ v (value_after policy (Gives pdu) v) (given_succeed (next_given v) pdu) (single_memory policy (Gives pdu) v refl) holds
step policy past v Fires sound so holds = quiet past _ v (value_after policy Fires v) (fired_succeed policy.tries (map (λ (held : Held). held.own) v.held) v) (fired_memory policy v) holds
step policy past v Tells sound so holds = quiet past [] v (value_after policy Tells v) no_saying refl holds

all_hold : (policy : Policy) (past list : List Occurrence) → EachAfter (λ front one. SucceedsIn policy one (run_of policy front).value) past list → Holds (run_of policy past).said (run_of policy past).value → Holds (run_of policy (past ++ list)).said (run_of policy (past ++ list)).value
all_hold policy past [] each holds = subst (λ l. Holds (run_of policy l).said (run_of policy l).value) (sym (append-nil past)) holds
all_hold policy past (one ∷ list) (now, each) holds =
    subst (λ l. Holds (run_of policy l).said (run_of policy l).value) (append_assoc past (one ∷ []) list)
    (all_hold policy (past ++ one ∷ []) list each
    (subst (λ (r : Run). Holds r.said r.value) (sym (fold-append (run_on policy) new_link past (one ∷ []))) (step policy (run_of policy past).said (run_of policy past).value one (all-sound policy past) now holds)))

pub new-successes_suffice : NewSuccessesSuffice
new-successes_suffice policy list each = (all_hold policy [] list each (record { said = no_saying; last = λ l is. let never : None ≡ Some l = is in cc })).said
