-- A host waits for the features of its peer where its talk says so.
use Rattle.std.proofs.Common.{◌≡◌, ℕ, List, [], ◌∷◌, ◌++◌, fold, Bool, true, false, cond, eqb, not, Option, Some, None, Ok, Err, refl, sym, ap, subst, ◌∙◌}
use Rattle.std.specs.Prelude.{is_some, nat_le}
use Rattle.std.specs.List.{filter_map, cons_option}
use Rattle.std.proofs.lemmas.List.Sums.{fold-append}
use Rattle.std.proofs.lemmas.List.Elements.{filter_map-append}
use Rattle.talk_laws.specs.acl_fragments.specs.Pieces.{channel_of}
use Rattle.talk_laws.specs.capture.specs.declared.flow.Flow.TheVariants.{Out, Into}
use Rattle.talk_laws.specs.l2cap_signal.specs.Commands.{Content, reject, connection_request, connection_response, configuration_request, configuration_response, disconnection_request, disconnection_response, echo_request, echo_response, information_request, information_response}
use Rattle.talk_laws.specs.l2cap_signal.specs.Reading.{Answer as Read}
use Rattle.talk_laws.specs.link_talk.specs.Sayings.{Saying, Carried, GaveUp}
use Rattle.talk_laws.specs.link_talk.specs.Sayings as sayings
use Rattle.talk_laws.specs.link_talk.specs.Waits.{notice, notice_of, notice_answered, noticed, unless_same}
use Rattle.channel_model.specs.declared.errand.Errand.TheVariants as errands
use Rattle.channel_model.specs.declared.event.ChannelEvent.TheVariants.{Features}
use Rattle.channel_model.specs.Value.{Request, Ask, Carrier, Plain, Retransmitting, Channels}
use Rattle.channel_model.specs.Policies.{Policy}
use Rattle.channel_model.specs.Changing.{held_at, has_room, is_due, queued, forgets, tells}
use Rattle.channel_model.specs.Asking.{new_request, asks, StillDue, OnceMore, Spent}
use Rattle.channel_model.specs.Following.{follows}
use Rattle.channel_model.specs.Responses.{has_identifier, hears_features, features_in}
use Rattle.channel_model.specs.Hearing.{hears_content}
use Rattle.channel_model.specs.Carrying.{takes}
use Rattle.channel_model.specs.Timing.{fires, times_held, times_end, loses_features, times_features}
use Rattle.channel_model.specs.Giving.{Given, Signal, Whole, Framed, next_given, after_given}
use Rattle.channel_model.specs.Calls.{after_event, carrier_at, connected, disconnected, sends}
use Rattle.channel_model.proofs.Lookups.{eqb-same}
use Rattle.own_channel_laws.specs.OwnTalk.{spoken, command_with, command_if, exchanged, asked_between}
use Rattle.own_channel_laws.specs.Runs.{Occurrence, Comes, Connects, AsksFeatures, Disconnects, Sends, Gives, Fires, Tells, given_up, features_given_up, said_again, said_on_firing, peer_at, said_by_carrier, said_as, said_in, value_after, run_of}
use Rattle.own_channel_laws.specs.Awaited.{FeaturesAreAwaited}
use Rattle.own_channel_laws.proofs.Asking.{asked-one, newest-asks}
use Rattle.own_channel_laws.proofs.Lasting.{asked_by, follows-lasts, grant-lasts, response-lasts, end-lasts, takes-lasts, connects-lasts, disconnects-last, sends-last, gives-last, times-last, ends-last}
use Rattle.own_channel_laws.proofs.Words.{Words, words-asked, words-again, words-left, words-firing}
use Rattle.own_channel_laws.proofs.Replying.{is_response, IsReply}
use Rattle.own_channel_laws.proofs.Converses.{is_asking, is_single, Converses}
use Rattle.own_channel_laws.proofs.Conversing.{conversed}

-- ---- what is noticed

abbrev notices : Option ℕ → List Saying → Option ℕ
notices waiting said = fold noticed waiting (filter_map notice said)

notices_append : (n : Option ℕ) (xs ys : List Saying) → notices n (xs ++ ys) ≡ notices (notices n xs) ys
notices_append n xs ys = ap (fold noticed n) (filter_map-append notice xs ys) ∙ fold-append noticed n (filter_map notice xs) (filter_map notice ys)

-- sayings behind which it is the same that waits
abbrev Leaves : Option ℕ → List Saying → Type 0
Leaves n said = notices n said ≡ n

leaves_both : (n : Option ℕ) (xs ys : List Saying) → Leaves n xs → Leaves n ys → Leaves n (xs ++ ys)
leaves_both n xs ys one other = notices_append n xs ys ∙ (ap (λ m. notices m ys) one ∙ other)

leaves_if : (n : Option ℕ) (b : Bool) (said : List Saying) → Leaves n said → Leaves n (cond b said [])
leaves_if n true said leaves = leaves
leaves_if n false said leaves = refl

-- ---- own words

-- the question for the features is the one that waits
own_words : (w : Channels) → Words w (Leaves (asked_by w.features))
own_words w = record {
  none = refl;
  both = leaves_both (asked_by w.features);
  calls = λ own held request at is. refl;
  wishes = λ own peer held setup request options at has to is. refl;
  ends = λ identifier peer own. refl;
  asks = λ request is. sym (ap asked_by is);
  lets_call = λ identifier own. refl;
  lets_end = λ own peer. refl;
}

leaves_asked : (v w : Channels) → Leaves (asked_by w.features) (asked_between v w)
leaves_asked v w = words-asked w (Leaves (asked_by w.features)) (own_words w) v

leaves_again : (v w : Channels) → Leaves (asked_by w.features) (said_again errands.Features v w)
leaves_again v w = words-again w (Leaves (asked_by w.features)) (own_words w) errands.Features v

leaves_firing : (own : ℕ) (v w : Channels) → Leaves (asked_by w.features) (said_on_firing own v w)
leaves_firing own v w = words-firing w (Leaves (asked_by w.features)) (own_words w) own v

-- ---- what comes in

-- a response asks for no information
response_none : (identifier : ℕ) (content : Content) → is_response content ≡ true → notice_of Out identifier content ≡ None
response_none identifier (reject reason rest) is = refl
response_none identifier (connection_request psm source) is = cc
response_none identifier (connection_response destination source answer status) is = refl
response_none identifier (configuration_request destination flags options) is = cc
response_none identifier (configuration_response source flags answer options) is = refl
response_none identifier (disconnection_request destination source) is = cc
response_none identifier (disconnection_response destination source) is = refl
response_none identifier (echo_request octets) is = cc
response_none identifier (echo_response octets) is = refl
response_none identifier (information_request kind) is = cc
response_none identifier (information_response kind answer rest) is = refl

-- and what asks ends none
asking_none : (identifier : ℕ) (content : Content) → not (is_response content) ≡ true → notice_of Into identifier content ≡ None
asking_none identifier (reject reason rest) is = cc
asking_none identifier (connection_request psm source) is = refl
asking_none identifier (connection_response destination source answer status) is = cc
asking_none identifier (configuration_request destination flags options) is = refl
asking_none identifier (configuration_response source flags answer options) is = cc
asking_none identifier (disconnection_request destination source) is = refl
asking_none identifier (disconnection_response destination source) is = cc
asking_none identifier (echo_request octets) is = refl
asking_none identifier (echo_response octets) is = cc
asking_none identifier (information_request kind) is = refl
asking_none identifier (information_response kind answer rest) is = cc

one_none : (one : Read) → is_asking one ≡ true → notice_answered Into one ≡ None
one_none (Ok command) is = asking_none command.identifier command.content is
one_none (Err refusal) is = refl

leaves_exchange : (n : Option ℕ) (one : Read) (identifier : ℕ) (response : Option Content) (v : Channels) → notice_answered Into one ≡ None → IsReply response → Leaves n (exchanged one (command_if identifier response) v)
leaves_exchange n one identifier None v quiet reply = ap (λ f. fold noticed n (cons_option f [])) quiet
leaves_exchange n one identifier (Some content) v quiet reply =
    leaves_if n (has_room v) (sayings.Command Into one ∷ spoken (command_with identifier content) ∷ [])
    (ap (λ f. fold noticed n (cons_option f (cons_option (notice_of Out identifier content) []))) quiet ∙ ap (λ f. fold noticed n (cons_option f [])) (response_none identifier content reply))

-- ---- what always holds

abbrev Informed : List Saying → Channels → Type 0
Informed past v = notices None past ≡ asked_by v.features

-- sayings that change nothing, where the question is the same
goes_on : (past : List Saying) (v w : Channels) (said : List Saying) → asked_by w.features ≡ asked_by v.features → Leaves (asked_by w.features) said → Informed past v → Informed (past ++ said) w
goes_on past v w said lasts leaves informed = notices_append None past said ∙ (ap (λ m. notices m said) (informed ∙ sym lasts) ∙ leaves)

heard_so : (past : List Saying) (v w : Channels) (one : Read) (identifier : ℕ) (response : Option Content) → notice_answered Into one ≡ None → IsReply response → asked_by w.features ≡ asked_by v.features → Informed past v
    → Informed (past ++ (exchanged one (command_if identifier response) v ++ asked_between v w)) w
heard_so past v w one identifier response quiet reply lasts informed =
    let n = asked_by w.features in
    goes_on past v w (exchanged one (command_if identifier response) v ++ asked_between v w) lasts
    (leaves_both n (exchanged one (command_if identifier response) v) (asked_between v w) (leaves_exchange n one identifier response v quiet reply) (leaves_asked v w)) informed

-- ---- information that came

features_by : (n : Option ℕ) (v : Channels) (identifier : ℕ) (given : Option ℕ) (features : Option Request) → v.features ≡ features → n ≡ asked_by v.features
    → (let w : Channels = cond (has_identifier identifier features) (tells (Features given) (forgets errands.Features (record v { features = None }))) v in unless_same n identifier ≡ asked_by w.features)
features_by n v identifier given None is waits = ap (λ m. unless_same m identifier) (waits ∙ ap asked_by is) ∙ sym (ap asked_by is)
features_by n v identifier given (Some request) is informed = by (eqb request.identifier identifier) refl
  where
    waits : unless_same n identifier ≡ cond (eqb request.identifier identifier) None (Some request.identifier)
    waits = ap (λ m. unless_same m identifier) (informed ∙ ap asked_by is)

    by : (same : Bool) → eqb request.identifier identifier ≡ same → (let w : Channels = cond same (tells (Features given) (forgets errands.Features (record v { features = None }))) v in unless_same n identifier ≡ asked_by w.features)
    by true now = waits ∙ ap (λ t. cond t None (Some request.identifier)) now
    by false now = waits ∙ (ap (λ t. cond t None (Some request.identifier)) now ∙ sym (ap asked_by is))

features_heard : (past : List Saying) (v : Channels) (identifier : ℕ) (given : Option ℕ) (one : Saying) → ((n : Option ℕ) → notices n (one ∷ []) ≡ unless_same n identifier) → Informed past v
    → (let w : Channels = hears_features identifier given v in Informed (past ++ (one ∷ asked_between v w)) w)
features_heard past v identifier given one ends informed =
    let w : Channels = hears_features identifier given v in
    let waits : unless_same (notices None past) identifier ≡ asked_by w.features = features_by (notices None past) v identifier given v.features refl informed in
    notices_append None past (one ∷ asked_between v w)
    ∙ (notices_append (notices None past) (one ∷ []) (asked_between v w)
    ∙ (ap (λ m. notices m (asked_between v w)) (ends (notices None past) ∙ waits) ∙ leaves_asked v w))

abbrev readable : (identifier : ℕ) → Content → Read
readable identifier content = Ok (command_with identifier content)

answered_so : (policy : Policy) (past : List Saying) (v : Channels) (identifier : ℕ) (content : Content) → is_response content ≡ true → Informed past v
    → (let w : Channels = hears_content policy identifier content v in Informed (past ++ (exchanged (readable identifier content) None v ++ asked_between v w)) w)
answered_so policy past v identifier (reject reason rest) is informed = features_heard past v identifier None (sayings.Command Into (readable identifier (reject reason rest))) (λ n. refl) informed
answered_so policy past v identifier (connection_request psm source) is informed = cc
answered_so policy past v identifier (connection_response destination source answer status) is informed =
    heard_so past v (hears_content policy identifier (connection_response destination source answer status) v) (readable identifier (connection_response destination source answer status)) identifier None refl tt
    (grant-lasts v (held_at source v) policy identifier destination answer).0 informed
answered_so policy past v identifier (configuration_request destination flags options) is informed = cc
answered_so policy past v identifier (configuration_response source flags answer options) is informed =
    heard_so past v (hears_content policy identifier (configuration_response source flags answer options) v) (readable identifier (configuration_response source flags answer options)) identifier None refl tt
    (response-lasts v (held_at source v) policy identifier answer options).0 informed
answered_so policy past v identifier (disconnection_request destination source) is informed = cc
answered_so policy past v identifier (disconnection_response destination source) is informed =
    heard_so past v (hears_content policy identifier (disconnection_response destination source) v) (readable identifier (disconnection_response destination source)) identifier None refl tt
    (end-lasts v (held_at source v) destination).0 informed
answered_so policy past v identifier (echo_request octets) is informed = cc
answered_so policy past v identifier (echo_response octets) is informed = heard_so past v v (readable identifier (echo_response octets)) identifier None refl tt refl informed
answered_so policy past v identifier (information_request kind) is informed = cc
answered_so policy past v identifier (information_response kind answer rest) is informed =
    features_heard past v identifier (features_in kind answer rest) (sayings.Command Into (readable identifier (information_response kind answer rest))) (λ n. refl) informed

-- ---- what the host does alone

asks_informed : (past : List Saying) (v : Channels) (features : Option Request) → v.features ≡ features → Informed past v
    → (let w : Channels = cond (is_some features) v (asks errands.Features (record v { features = Some (new_request v) })) in Informed (past ++ asked_between v w) w)
asks_informed past v (Some request) is informed = goes_on past v v (asked_between v v) refl (leaves_asked v v) informed
asks_informed past v None is informed =
    let before : Channels = record v { features = Some (new_request v) } in
    let w : Channels = asks errands.Features before in
    let said : asked_between v w ≡ spoken (command_with v.identifier (information_request 2)) ∷ [] =
    asked-one v w errands.Features (command_with v.identifier (information_request 2)) refl (newest-asks errands.Features before) refl in
    notices_append None past (asked_between v w) ∙ ap (notices (notices None past)) said

leaves_carrier : (n : Option ℕ) (carrier : Option Carrier) (peer : ℕ) (sdu : List ℕ) → Leaves n (said_by_carrier carrier peer sdu)
leaves_carrier n None peer sdu = refl
leaves_carrier n (Some (Plain agreed None)) peer sdu = refl
leaves_carrier n (Some (Plain agreed (Some waiting))) peer sdu = refl
leaves_carrier n (Some (Retransmitting machine)) peer sdu = refl

leaves_given : (n : Option ℕ) (given : Option Given) (pdu : List ℕ) → Leaves n (said_as given pdu)
leaves_given n None pdu = refl
leaves_given n (Some (Signal command)) pdu = refl
leaves_given n (Some (Whole peer sdu)) pdu = refl
leaves_given n (Some (Framed peer frame)) pdu = refl

kept_features : (request : Request) (after : Option Request) → after ≡ Some request → features_given_up (Some request) after ≡ []
kept_features request after is = ap (features_given_up (Some request)) is

-- a question that is still asked
still_asked : (past : List Saying) (v w : Channels) (request : Request) → v.features ≡ Some request → w.features ≡ v.features → Informed past v → Informed (past ++ (said_again errands.Features v w ++ features_given_up (Some request) w.features)) w
still_asked past v w request is same informed =
    subst (λ more. Informed (past ++ (said_again errands.Features v w ++ more)) w) (sym (kept_features request w.features (same ∙ is)))
    (goes_on past v w (said_again errands.Features v w ++ []) (ap asked_by same) (leaves_both (asked_by w.features) (said_again errands.Features v w) [] (leaves_again v w) refl) informed)

features_fire : (past : List Saying) (tries : ℕ) (v : Channels) (features : Option Request) → v.features ≡ features → Informed past v
    → (let w : Channels = times_features features tries v in Informed (past ++ (said_again errands.Features v w ++ features_given_up features w.features)) w)
features_fire past tries v None is informed = goes_on past v v (said_again errands.Features v v ++ []) refl (leaves_both (asked_by v.features) (said_again errands.Features v v) [] (leaves_again v v) refl) informed
features_fire past tries v (Some request) is informed = by (is_due errands.Features v) (nat_le tries request.given)
  where
    lost : Informed (past ++ (said_again errands.Features v (loses_features v) ++ (GaveUp (sayings.Information request.identifier) ∷ []))) (loses_features v)
    lost =
        let again : List Saying = said_again errands.Features v (loses_features v) in
        let none : notices (notices None past) again ≡ notices None past = leaves_if (notices None past) _ [] refl in
        notices_append None past (again ++ GaveUp (sayings.Information request.identifier) ∷ [])
        ∙ (notices_append (notices None past) again (GaveUp (sayings.Information request.identifier) ∷ [])
        ∙ (ap (λ m. unless_same m request.identifier) (none ∙ (informed ∙ ap asked_by is)) ∙ ap (λ t. cond t None (Some request.identifier)) (eqb-same request.identifier)))

    by : (due most : Bool) → (let w : Channels = fires (cond due StillDue (cond most Spent OnceMore)) errands.Features loses_features v in Informed (past ++ (said_again errands.Features v w ++ features_given_up (Some request) w.features)) w)
    by true most = still_asked past v v request is refl informed
    by false true = lost
    by false false = still_asked past v (queued (Ask errands.Features) v) request is refl informed

single_informed : (policy : Policy) (past : List Saying) (v : Channels) (more : Occurrence) → is_single more ≡ true → Informed past v → Informed (past ++ said_in policy more v) (value_after policy more v)
single_informed policy past v (Comes pdu) is informed = cc
single_informed policy past v (Connects psm) is informed = goes_on past v (connected psm v) (asked_between v (connected psm v)) (connects-lasts psm v).0 (leaves_asked v (connected psm v)) informed
single_informed policy past v AsksFeatures is informed = asks_informed past v v.features refl informed
single_informed policy past v (Disconnects own) is informed =
    let w : Channels = disconnected own v in
    goes_on past v w (asked_between v w ++ given_up own v w) (disconnects-last own v).0
    (words-left w (Leaves (asked_by w.features)) (own_words w) own v) informed
single_informed policy past v (Sends own sdu) is informed =
    let w : Channels = sends own sdu v in
    goes_on past v w (said_by_carrier (carrier_at own v) (peer_at (held_at own v)) sdu) (sends-last own sdu v).0 (leaves_carrier (asked_by w.features) (carrier_at own v) (peer_at (held_at own v)) sdu) informed
single_informed policy past v (Gives pdu) is informed =
    let w : Channels = after_given v in goes_on past v w (said_as (next_given v) pdu) (gives-last v).0 (leaves_given (asked_by w.features) (next_given v) pdu) informed
single_informed policy past v Fires is informed = cc
single_informed policy past v Tells is informed = goes_on past v (after_event v) [] refl refl informed

converses : (policy : Policy) → Converses policy (λ v. Unit {0}) Informed
converses policy = record {
  first = tt;
  kept = λ v more lone known. tt;
  asked = λ past v u one identifier response content asking reply alike waits sound informed after. heard_so past v (follows policy content u) one identifier response (one_none one asking) reply ((follows-lasts policy content u).0 ∙ ap asked_by alike.features_is) informed;
  answered = λ past v identifier content is sound informed after. answered_so policy past v identifier content is informed;
  taken = λ past v pdu known sound informed after.
      let w : Channels = takes (channel_of pdu) pdu v in goes_on past v w (Carried Into pdu ∷ asked_between v w) (takes-lasts (channel_of pdu) pdu v).0 (leaves_asked v w) informed;
  waits = λ past v tries own sound informed after. let w : Channels = times_held (held_at own v) tries v in goes_on past v w (said_on_firing own v w) (times-last tries own v).0 (leaves_firing own v w) informed;
  ends = λ past v tries own sound informed after. let w : Channels = times_end (held_at own v) tries v in goes_on past v w (said_on_firing own v w) (ends-last tries own v).0 (leaves_firing own v w) informed;
  loses = λ past v tries sound informed after. features_fire past tries v v.features refl informed;
  single = λ past v more is known sound informed after. single_informed policy past v more is informed;
}

some_asked : (features : Option Request) → is_some (asked_by features) ≡ is_some features
some_asked None = refl
some_asked (Some request) = refl

pub features-are_awaited : FeaturesAreAwaited
features-are_awaited policy list = ap (λ (n : Option ℕ). is_some n) (conversed policy (λ v. Unit {0}) Informed (converses policy) refl list) ∙ some_asked (run_of policy list).value.features
