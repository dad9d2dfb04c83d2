-- The question for the peer's features: each copy of it is answered where there is room, and each answer ends the wait.
use Rattle.std.proofs.Common.{◌≡◌, ℕ, List, [], ◌∷◌, ◌++◌, drop, map, Bool, true, false, cond, eqb, Option, Some, None, Ok, Err, refl, sym, subst, ◌∙◌}
use Rattle.own_channel_laws.specs.talk_laws.specs.acl_fragments.specs.Pieces.{channel_of}
use Rattle.own_channel_laws.specs.talk_laws.specs.capture.specs.Histories.{EachAfter}
use Rattle.own_channel_laws.specs.talk_laws.specs.l2cap_signal.specs.Commands.{Content, Command, reject, connection_request, connection_response, configuration_request, configuration_response, disconnection_request, disconnection_response, echo_request, echo_response, information_request, information_response}
use Rattle.own_channel_laws.specs.talk_laws.specs.l2cap_signal.specs.Reading.{Answer as Read, answers}
use Rattle.own_channel_laws.specs.talk_laws.specs.l2cap_signal.specs.declared.refusal.SignalRefusal.TheVariants.{ZeroIdentifier, BadLength, UnknownCode, AboveMtu}
use Rattle.own_channel_laws.specs.channel_model.specs.declared.errand.Errand.TheVariants as errands
use Rattle.own_channel_laws.specs.channel_model.specs.declared.request_kind.RequestKind.{RequestKind}
use Rattle.own_channel_laws.specs.channel_model.specs.declared.request_kind.RequestKind.TheVariants as kinds
use Rattle.own_channel_laws.specs.channel_model.specs.Value.{Remembered, Memory, Channels}
use Rattle.own_channel_laws.specs.channel_model.specs.Policies.{Policy}
use Rattle.own_channel_laws.specs.channel_model.specs.Changing.{held_at, has_room}
use Rattle.own_channel_laws.specs.channel_model.specs.Answers.{kind_of_code, remembered, with_remembered, not_understood, too_long, answer_to}
use Rattle.own_channel_laws.specs.channel_model.specs.Following.{follows, remembers, says, can_say, hears_new, hears_again, hears_kind}
use Rattle.own_channel_laws.specs.channel_model.specs.Responses.{hears_features, features_in, hears_grant, hears_response, hears_end}
use Rattle.own_channel_laws.specs.channel_model.specs.Hearing.{hears_content, hears_malformed, is_response_code, is_kind, hears_unread, hears_command, hears_commands}
use Rattle.own_channel_laws.specs.channel_model.specs.Carrying.{takes}
use Rattle.own_channel_laws.specs.channel_model.specs.Timing.{times_held, times_end, times_channels, timed_out}
use Rattle.channel_laws.specs.Adverse.{responds_with, responds_to, IsRoomy, FeaturesAreHeeded}
use Rattle.channel_laws.specs.Ends.{end_at}
use Rattle.channel_laws.specs.Pairs.{Pair, Happening, Acts, Puts, Takes, Repeats, Loses, Damages, Side, Near, Far, turned, Turn, pair_of}
use Rattle.own_channel_laws.specs.Runs.{Occurrence, Comes, Connects, AsksFeatures, Disconnects, Sends, Gives, Fires, Tells, value_after, run_of, Run}
use Rattle.own_channel_laws.proofs.Both.{and-right}
use Rattle.own_channel_laws.proofs.Lasting.{Lasts, follows-lasts, grant-lasts, response-lasts, end-lasts, takes-lasts, times-last, ends-last}
use Rattle.own_channel_laws.proofs.Conversing.{says_memory, features_memory, features_lost, single_memory}
use Rattle.channel_laws.proofs.Pairing.{each-end_runs}
use Rattle.own_channel_laws.proofs.Running.{along}
use Rattle.channel_laws.specs.Final.{IsFinal}
use Rattle.channel_laws.specs.Heeded.{RespondsTo, EndsWait, IsMet, IsMetBy}
use Rattle.channel_laws.specs.Responding.{Recalls, RecalledOr, IsRecalledOr, CanRespond}
use Rattle.channel_laws.proofs.Concluding.{final-responses_end_waits}
use Rattle.channel_laws.proofs.Meeting.{met-is_heeded}
use Rattle.channel_laws.proofs.Responding.{informed, copies-have_responses}

-- ---- what is remembered of the peer's last question is an answer to it

abbrev pub InformsLast : Option Remembered → Type 0
InformsLast None = Unit {0}
InformsLast (Some last) = Recalls errands.Features last.response

-- so it stays
abbrev pub Informs : (v w : Channels) → Type 0
Informs v w = InformsLast v.memory.information → InformsLast w.memory.information

pub by_memory : (v w : Channels) → w.memory ≡ v.memory → Informs v w
by_memory v w same so = subst (λ (m : Memory). InformsLast m.information) (sym same) so

-- a question for information has an answer
abbrev pub InformsAs : RequestKind → Option Content → Type 0
InformsAs kinds.Connection fresh = Unit {0}
InformsAs kinds.Configuration fresh = Unit {0}
InformsAs kinds.Disconnection fresh = Unit {0}
InformsAs kinds.Echo fresh = Unit {0}
InformsAs kinds.Information fresh = Recalls errands.Features fresh

pub remembers_so : (kind : RequestKind) (last : Remembered) (memory : Memory) → InformsAs kind last.response → InformsLast memory.information → InformsLast (with_remembered kind last memory).information
remembers_so kinds.Connection last memory informs so = so
remembers_so kinds.Configuration last memory informs so = so
remembers_so kinds.Disconnection last memory informs so = so
remembers_so kinds.Echo last memory informs so = so
remembers_so kinds.Information last memory informs so = informs

pub new_informs : (v : Channels) (kind : RequestKind) (identifier : ℕ) (response : Option Content) (more : Channels → Channels) → ((u : Channels) → Lasts u (more u)) → InformsAs kind response → Informs v (hears_new kind identifier response more v)
new_informs v kind identifier response more goes informs = by (can_say response v)
  where
    last : Remembered
    last = record { identifier = identifier; response = response }

    u : Channels
    u = says identifier response (remembers kind identifier response v)

    memory_is : (more u).memory ≡ with_remembered kind last v.memory
    memory_is = (goes u).1 ∙ says_memory identifier response (remembers kind identifier response v)

    by : (can : Bool) → Informs v (cond can (more u) v)
    by true so = subst (λ (m : Memory). InformsLast m.information) (sym memory_is) (remembers_so kind last v.memory informs so)
    by false so = so

pub again_informs : (v : Channels) (identifier : ℕ) (response : Option Content) → Informs v (hears_again identifier response v)
again_informs v identifier response = by (can_say response v)
  where
    by : (can : Bool) → Informs v (cond can (says identifier response v) v)
    by true = by_memory v (says identifier response v) (says_memory identifier response v)
    by false = λ so. so

pub kind_informs : (v : Channels) (last : Option Remembered) (kind : RequestKind) (identifier : ℕ) (fresh : Option Content) (more : Channels → Channels) → ((u : Channels) → Lasts u (more u)) → InformsAs kind fresh → Informs v (hears_kind last kind identifier fresh more v)
kind_informs v None kind identifier fresh more goes informs = new_informs v kind identifier fresh more goes informs
kind_informs v (Some last) kind identifier fresh more goes informs = by (eqb last.identifier identifier)
  where
    by : (same : Bool) → Informs v (cond same (hears_again identifier last.response v) (hears_new kind identifier fresh more v))
    by true = again_informs v identifier last.response
    by false = new_informs v kind identifier fresh more goes informs

pub content_informs : (policy : Policy) (identifier : ℕ) (content : Content) (v : Channels) → Informs v (hears_content policy identifier content v)
content_informs policy identifier (reject reason rest) v = by_memory v (hears_features identifier None v) (features_memory identifier None v)
content_informs policy identifier (connection_request psm source) v =
    let c : Content = connection_request psm source in kind_informs v v.memory.connection kinds.Connection identifier (answer_to policy c v) (follows policy c) (follows-lasts policy c) tt
content_informs policy identifier (connection_response destination source answer status) v =
    let heard : Channels = hears_grant (held_at source v) policy identifier destination answer v in by_memory v heard (grant-lasts v (held_at source v) policy identifier destination answer).1
content_informs policy identifier (configuration_request destination flags options) v =
    let c : Content = configuration_request destination flags options in kind_informs v v.memory.configuration kinds.Configuration identifier (answer_to policy c v) (follows policy c) (follows-lasts policy c) tt
content_informs policy identifier (configuration_response source flags answer options) v =
    let heard : Channels = hears_response (held_at source v) policy identifier answer options v in by_memory v heard (response-lasts v (held_at source v) policy identifier answer options).1
content_informs policy identifier (disconnection_request destination source) v =
    let c : Content = disconnection_request destination source in kind_informs v v.memory.disconnection kinds.Disconnection identifier (answer_to policy c v) (follows policy c) (follows-lasts policy c) tt
content_informs policy identifier (disconnection_response destination source) v =
    let heard : Channels = hears_end (held_at source v) destination v in by_memory v heard (end-lasts v (held_at source v) destination).1
content_informs policy identifier (echo_request octets) v =
    let c : Content = echo_request octets in kind_informs v v.memory.echo kinds.Echo identifier (answer_to policy c v) (follows policy c) (follows-lasts policy c) tt
content_informs policy identifier (echo_response octets) v = λ so. so
content_informs policy identifier (information_request kind) v =
    let c : Content = information_request kind in kind_informs v v.memory.information kinds.Information identifier (answer_to policy c v) (follows policy c) (follows-lasts policy c) (informed kind)
content_informs policy identifier (information_response kind answer rest) v =
    let heard : Channels = hears_features identifier (features_in kind answer rest) v in by_memory v heard (features_memory identifier (features_in kind answer rest) v)

pub malformed_has : (kind : RequestKind) → InformsAs kind (Some not_understood)
malformed_has kinds.Connection = tt
malformed_has kinds.Configuration = tt
malformed_has kinds.Disconnection = tt
malformed_has kinds.Echo = tt
malformed_has kinds.Information = refl

pub malformed_informs : (kind : Option RequestKind) (identifier : ℕ) (v : Channels) → Informs v (hears_malformed kind identifier v)
malformed_informs None identifier v = λ so. so
malformed_informs (Some kind) identifier v = kind_informs v (remembered kind v.memory) kind identifier (Some not_understood) (λ w. w) (λ u. (refl, refl, refl)) (malformed_has kind)

pub unread_informs : (code identifier : ℕ) (v : Channels) → Informs v (hears_unread code identifier v)
unread_informs code identifier v = by (eqb identifier 0) (is_response_code code) (is_kind (kind_of_code code))
  where
    by : (zero response kind : Bool) → Informs v (cond zero v (cond response v (cond kind (hears_malformed (kind_of_code code) identifier v) (hears_again identifier (Some not_understood) v))))
    by true response kind = λ so. so
    by false true kind = λ so. so
    by false false true = malformed_informs (kind_of_code code) identifier v
    by false false false = again_informs v identifier (Some not_understood)

pub long_informs : (identifier : ℕ) (v : Channels) (zero : Bool) → Informs v (cond zero v (hears_again identifier (Some too_long) v))
long_informs identifier v true = λ so. so
long_informs identifier v false = again_informs v identifier (Some too_long)

pub command_informs : (policy : Policy) (one : Read) (v : Channels) → Informs v (hears_command policy one v)
command_informs policy (Ok command) v = content_informs policy command.identifier command.content v
command_informs policy (Err (ZeroIdentifier code identifier)) v = λ so. so
command_informs policy (Err (BadLength code None)) v = λ so. so
command_informs policy (Err (BadLength code (Some identifier))) v = unread_informs code identifier v
command_informs policy (Err (UnknownCode code None)) v = λ so. so
command_informs policy (Err (UnknownCode code (Some identifier))) v = unread_informs code identifier v
command_informs policy (Err (AboveMtu code None)) v = λ so. so
command_informs policy (Err (AboveMtu code (Some identifier))) v = long_informs identifier v (eqb identifier 0)

pub commands_inform : (policy : Policy) (list : List Read) (v : Channels) → Informs v (hears_commands policy list v)
commands_inform policy [] v so = so
commands_inform policy (one ∷ list) v so = commands_inform policy list (hears_command policy one v) (command_informs policy one v so)

pub channels_inform : (tries : ℕ) (owns : List ℕ) (v : Channels) → Informs v (times_channels tries owns v)
channels_inform tries [] v so = so
channels_inform tries (own ∷ owns) v so =
    let u : Channels = times_held (held_at own v) tries v in
    let w : Channels = times_end (held_at own u) tries u in
    channels_inform tries owns w (by_memory u w (ends-last tries own u).1 (by_memory v u (times-last tries own v).1 so))

pub occurs_informs : (policy : Policy) (more : Occurrence) (v : Channels) → Informs v (value_after policy more v)
occurs_informs policy (Comes pdu) v = by (eqb (channel_of pdu) 0x0001)
  where
    by : (signals : Bool) → Informs v (cond signals (hears_commands policy (answers (drop 4 pdu)) v) (takes (channel_of pdu) pdu v))
    by true = commands_inform policy (answers (drop 4 pdu)) v
    by false = by_memory v (takes (channel_of pdu) pdu v) (takes-lasts (channel_of pdu) pdu v).1
occurs_informs policy (Connects psm) v = by_memory v (value_after policy (Connects psm) v) (single_memory policy (Connects psm) v refl)
occurs_informs policy AsksFeatures v = by_memory v (value_after policy AsksFeatures v) (single_memory policy AsksFeatures v refl)
occurs_informs policy (Disconnects own) v = by_memory v (value_after policy (Disconnects own) v) (single_memory policy (Disconnects own) v refl)
occurs_informs policy (Sends own sdu) v = by_memory v (value_after policy (Sends own sdu) v) (single_memory policy (Sends own sdu) v refl)
occurs_informs policy (Gives pdu) v = by_memory v (value_after policy (Gives pdu) v) (single_memory policy (Gives pdu) v refl)
occurs_informs policy Fires v = λ so.
    let u : Channels = times_channels policy.tries (map (λ held. held.own) v.held) v in
    by_memory u (timed_out policy v) (features_lost policy.tries u u.features) (channels_inform policy.tries (map (λ held. held.own) v.held) v so)
occurs_informs policy Tells v = λ so. so

pub all_inform : (policy : Policy) (list : List Occurrence) → InformsLast (run_of policy list).value.memory.information
all_inform policy list = (along policy (λ run. InformsLast run.value.memory.information) tt (λ run more sound so. occurs_informs policy more run.value so) list).1

-- ---- two ends

-- a copy that comes in is responded to
pub responds_there : (pair : Pair) (coming : List (List ℕ)) → has_room pair.far.run.value ≡ true → InformsLast pair.far.run.value.memory.information → RespondsTo errands.Features coming pair
responds_there pair [] room informs = tt
responds_there pair (pdu ∷ coming) room informs = λ command request signals read is asks.
    copies-have_responses pair.far.policy pair.far.run.value errands.Features request.identifier command asks (can command.identifier command.content) room
  where
    recalls : (last : Option Remembered) (identifier : ℕ) → InformsLast last → IsRecalledOr errands.Features last identifier (Unit {0})
    recalls None identifier so = tt
    recalls (Some last) identifier so = by (eqb last.identifier identifier)
      where
        by : (same : Bool) → RecalledOr same (Recalls errands.Features last.response) (Unit {0})
        by true = so
        by false = tt

    can : (identifier : ℕ) (content : Content) → CanRespond errands.Features identifier content pair.far.run.value
    can identifier (reject reason rest) = tt
    can identifier (connection_request psm source) = tt
    can identifier (connection_response destination source answer status) = tt
    can identifier (configuration_request destination flags options) = tt
    can identifier (configuration_response source flags answer options) = tt
    can identifier (disconnection_request destination source) = tt
    can identifier (disconnection_response destination source) = tt
    can identifier (echo_request octets) = tt
    can identifier (echo_response octets) = tt
    can identifier (information_request kind) = recalls pair.far.run.value.memory.information identifier informs
    can identifier (information_response kind answer rest) = tt

-- a response ends the wait
pub ends_here : (pair : Pair) (coming : List (List ℕ)) → EndsWait errands.Features coming pair
ends_here pair [] = tt
ends_here pair (pdu ∷ coming) = λ command request signals read is responds. final-responses_end_waits pair.near.policy pair.near.run.value errands.Features request command is responds (final request.identifier command responds)
  where
    by : (identifier : ℕ) (content : Content) → responds_with errands.Features content ≡ true → IsFinal pair.near.policy identifier content pair.near.run.value
    by identifier (reject reason rest) so = tt
    by identifier (connection_request psm source) so = tt
    by identifier (connection_response destination source answer status) so = cc
    by identifier (configuration_request destination flags options) so = tt
    by identifier (configuration_response source flags answer options) so = cc
    by identifier (disconnection_request destination source) so = tt
    by identifier (disconnection_response destination source) so = cc
    by identifier (echo_request octets) so = tt
    by identifier (echo_response octets) so = tt
    by identifier (information_request kind) so = tt
    by identifier (information_response kind answer rest) so = tt

    final : (identifier : ℕ) (command : Command) → responds_to errands.Features identifier command ≡ true → IsFinal pair.near.policy identifier command.content pair.near.run.value
    final identifier command responds = by identifier command.content (and-right (eqb command.identifier identifier) (responds_with errands.Features command.content) responds)

pub meets_one : (near far : Policy) (past : List Turn) (owner at : Side) (happening : Happening) → IsRoomy happening (end_at at (pair_of near far past)) → IsMetBy errands.Features owner at happening (pair_of near far past)
meets_one near far past owner at (Acts more) room = tt
meets_one near far past owner at (Puts pdu) room = tt
meets_one near far past owner at Takes room = by owner at room
  where
    pair : Pair
    pair = pair_of near far past

    near_informs : InformsLast pair.near.run.value.memory.information
    near_informs = let (list, is) = (each-end_runs near far past).0 in subst (λ (run : Run). InformsLast run.value.memory.information) (sym is) (all_inform near list)

    far_informs : InformsLast pair.far.run.value.memory.information
    far_informs = let (list, is) = (each-end_runs near far past).1 in subst (λ (run : Run). InformsLast run.value.memory.information) (sym is) (all_inform far list)

    by : (owner at : Side) → has_room (end_at at pair).run.value ≡ true → IsMet errands.Features owner at pair
    by Near Near room = ends_here pair pair.near.coming
    by Near Far room = responds_there pair pair.far.coming room far_informs
    by Far Near room = responds_there (turned pair) pair.near.coming room near_informs
    by Far Far room = ends_here (turned pair) pair.far.coming
meets_one near far past owner at Repeats room = tt
meets_one near far past owner at Loses room = tt
meets_one near far past owner at (Damages pdu) room = tt

pub meets_all : (near far : Policy) (owner : Side) (past turns : List Turn) → EachAfter (λ front turn. IsRoomy turn.happening (end_at turn.side (pair_of near far front))) past turns
    → EachAfter (λ front turn. IsMetBy errands.Features owner turn.side turn.happening (pair_of near far front)) past turns
meets_all near far owner past [] room = tt
meets_all near far owner past (turn ∷ turns) (now, later) = (meets_one near far past owner turn.side turn.happening now, meets_all near far owner (past ++ turn ∷ []) turns later)

pub features-are_heeded : FeaturesAreHeeded
features-are_heeded near far turns read room side = met-is_heeded near far turns read side errands.Features (meets_all near far side [] turns room)
