-- Each copy of a request that waits to be given is one of a request that waits for its response, whatever happens.
use Rattle.std.proofs.Common.{◌≡◌, ℕ, ◌+◌, ◌≤◌, List, [], ◌∷◌, ◌++◌, map, drop, Bool, true, false, cond, eqb, not, Option, Some, None, Ok, Err, refl, sym, ap, ◌∙◌, inl, inr, arith}
use Rattle.std.specs.Prelude.{find, is_some, nat_le, option_map}
use Rattle.std.specs.Option.{option_or}
use Rattle.std.proofs.lemmas.Bool.{eqb-true}
use Rattle.channel_laws.specs.acl_fragments.specs.Pieces.{channel_of}
use Rattle.channel_laws.specs.l2cap_signal.specs.Commands.{Content, reject, connection_request, connection_response, configuration_request, configuration_response, disconnection_request, disconnection_response, echo_request, echo_response, information_request, information_response}
use Rattle.channel_laws.specs.l2cap_signal.specs.Reading.{Answer as Read, answers}
use Rattle.channel_laws.specs.l2cap_signal.specs.declared.refusal.SignalRefusal.TheVariants.{ZeroIdentifier, BadLength, UnknownCode, AboveMtu}
use Rattle.channel_laws.specs.ertm_model.specs.Giving.{timed}
use Rattle.channel_laws.specs.channel_model.specs.declared.errand.Errand.{Errand}
use Rattle.channel_laws.specs.channel_model.specs.declared.errand.Errand.TheVariants as errands
use Rattle.channel_laws.specs.channel_model.specs.declared.event.ChannelEvent.TheVariants.{Features}
use Rattle.channel_laws.specs.channel_model.specs.declared.event.CloseReason.TheVariants.{RetryLimit}
use Rattle.channel_laws.specs.channel_model.specs.declared.request_kind.RequestKind.{RequestKind}
use Rattle.channel_laws.specs.channel_model.specs.declared.request_kind.RequestKind.TheVariants as kinds
use Rattle.channel_laws.specs.channel_model.specs.Value.{Request, Queued, Answer, Ask, Own, Unasked, Asking, Granted, Carrier, Plain, Retransmitting, Setup, Stage, Requested, Connected, Leaving, Closing, Crossed, Held, Remembered, Channels}
use Rattle.channel_laws.specs.channel_model.specs.Policies.{Policy}
use Rattle.channel_laws.specs.channel_model.specs.Changing.{has_own, held_at, setup_of, to_setup, same_errand, is_copy, is_due, queued, forgets, tells}
use Rattle.channel_laws.specs.channel_model.specs.Asking.{new_request, asks, StillDue, OnceMore, Spent}
use Rattle.channel_laws.specs.channel_model.specs.Closing.{closes, ends}
use Rattle.channel_laws.specs.channel_model.specs.Answers.{kind_of_code, remembered, not_understood, too_long, answer_to}
use Rattle.channel_laws.specs.channel_model.specs.Following.{with_channel, follows, remembers, says, can_say, hears_new, hears_again, hears_kind}
use Rattle.channel_laws.specs.channel_model.specs.Responses.{has_identifier, hears_features, features_in}
use Rattle.channel_laws.specs.channel_model.specs.Hearing.{hears_content, hears_malformed, is_response_code, is_kind, hears_unread, hears_command, hears_commands}
use Rattle.channel_laws.specs.channel_model.specs.Carrying.{takes}
use Rattle.channel_laws.specs.channel_model.specs.Timing.{fires, times, times_carrier, times_setup, times_stage, times_held, loses_end, times_end_at, times_end, loses_features, times_features, times_channels, timed_out}
use Rattle.channel_laws.specs.channel_model.specs.Giving.{gives, one_more, connection_given, configuration_given, disconnection_given, stage_given, counted, carrier_given, carrier_spent, held_given, queue_given}
use Rattle.channel_laws.specs.channel_model.specs.Calls.{can_connect}
use Rattle.channel_laws.specs.channel_model.proofs.Lookups.{own_of, Distinct, eqb-away, find-append, found-distinct}
use Rattle.channel_laws.specs.channel_model.proofs.Going.{new_held}
use Rattle.channel_laws.specs.channel_model.proofs.Walking.{found-own}
use Rattle.channel_laws.specs.Runs.{Occurrence, Comes, Connects, AsksFeatures, Disconnects, Sends, Gives, Fires, Tells, value_after, run_of}
use Rattle.channel_laws.specs.Tries.{for_channel, own_request, for_options, for_end, request_at, request_of, one_if, copies}
use Rattle.channel_laws.proofs.Running.{along}
use Rattle.channel_laws.proofs.Trying.{copies-less, copies-append, copies-none, copies-others, same-requests}
use Rattle.opening_laws.proofs.Grounding.{Grounded, Grounds, both-grounds, still-grounds, same-grounds, zero-of, forgot, Lapses, goes-grounds, asked_queue}
use Rattle.channel_laws.proofs.Dispatching.{connection_once, configuration_once, disconnection_once}
use Rattle.channel_laws.proofs.Spending.{same-is}
use Rattle.opening_laws.proofs.Stepping.{setup-grounds, before-new, closes-grounds, ends-grounds, follows-grounds, grant-grounds, response-grounds, end-grounds, settles-grounds, takes-grounds, disconnects-grounds, sends-grounds}

-- ---- features and new channels

features_grounds : (v w : Channels) → w.held ≡ v.held → copies errands.Features w.queue ≡ 0 → ((e : Errand) → copies e w.queue ≤ copies e v.queue) → Grounds v w
features_grounds v w held_is zero less so e is = by e is
  where
    by : (e : Errand) → request_of e w ≡ None → copies e w.queue ≡ 0
    by (errands.Connection own) none = zero-of (copies (errands.Connection own) w.queue) (copies (errands.Connection own) v.queue) (less (errands.Connection own)) (so (errands.Connection own) (sym (ap (λ hs. request_at for_channel (find (has_own own) hs)) held_is) ∙ none))
    by (errands.Configuration own) none = zero-of (copies (errands.Configuration own) w.queue) (copies (errands.Configuration own) v.queue) (less (errands.Configuration own)) (so (errands.Configuration own) (sym (ap (λ hs. request_at for_options (find (has_own own) hs)) held_is) ∙ none))
    by (errands.Disconnection own) none = zero-of (copies (errands.Disconnection own) w.queue) (copies (errands.Disconnection own) v.queue) (less (errands.Disconnection own)) (so (errands.Disconnection own) (sym (ap (λ hs. request_at for_end (find (has_own own) hs)) held_is) ∙ none))
    by errands.Features none = zero

hears_features_grounds : (v : Channels) (identifier : ℕ) (given : Option ℕ) → Grounds v (hears_features identifier given v)
hears_features_grounds v identifier given = by (has_identifier identifier v.features)
  where
    by : (same : Bool) → Grounds v (cond same (tells (Features given) (forgets errands.Features (record v { features = None }))) v)
    by true = features_grounds v (tells (Features given) (forgets errands.Features (record v { features = None }))) refl (forgot errands.Features v.queue) (λ e. copies-less e (λ x. not (is_copy errands.Features x)) v.queue)
    by false = same-grounds v

asked_features : (v : Channels) → Grounds v (asks errands.Features (record v { features = Some (new_request v) }))
asked_features v so e is = by e is
  where
    other : (e : Errand) → same_errand e errands.Features ≡ false → request_of e v ≡ None → copies e (asked_queue errands.Features v.queue) ≡ 0
    other e apart none = zero-of (copies e (asked_queue errands.Features v.queue)) (copies e v.queue) (copies-others e errands.Features v.queue apart) (so e none)

    by : (e : Errand) → request_of e (asks errands.Features (record v { features = Some (new_request v) })) ≡ None → copies e (asked_queue errands.Features v.queue) ≡ 0
    by (errands.Connection own) none = other (errands.Connection own) refl none
    by (errands.Configuration own) none = other (errands.Configuration own) refl none
    by (errands.Disconnection own) none = other (errands.Disconnection own) refl none
    by errands.Features none = cc

asks_features_grounds : (v : Channels) (asked : Bool) → Grounds v (cond asked v (asks errands.Features (record v { features = Some (new_request v) })))
asks_features_grounds v true = same-grounds v
asks_features_grounds v false = asked_features v

called_grounds : (v : Channels) (psm : ℕ) → find (has_own v.next) v.held ≡ None → Grounds v (asks (errands.Connection v.next) (with_channel psm (Requested (new_request v)) v))
called_grounds v psm fresh so e is = by e is
  where
    other : (e : Errand) → same_errand e (errands.Connection v.next) ≡ false → request_of e v ≡ None → copies e (asked_queue (errands.Connection v.next) v.queue) ≡ 0
    other e apart none = zero-of (copies e (asked_queue (errands.Connection v.next) v.queue)) (copies e v.queue) (copies-others e (errands.Connection v.next) v.queue apart) (so e none)

    whole : (f : Stage → Option Request) (own : ℕ) → request_at f (find (has_own own) (v.held ++ new_held psm v.next (Requested (new_request v)) ∷ [])) ≡ None
        → request_at f (option_or (find (has_own own) v.held) (cond (eqb v.next own) (Some (new_held psm v.next (Requested (new_request v)))) None)) ≡ None
    whole f own none = sym (ap (request_at f) (find-append own_of own v.held (new_held psm v.next (Requested (new_request v))))) ∙ none

    old : (f : Stage → Option Request) (own : ℕ) → request_at f (find (has_own own) (v.held ++ new_held psm v.next (Requested (new_request v)) ∷ [])) ≡ None → request_at f (find (has_own own) v.held) ≡ None
    old f own none = before-new f (find (has_own own) v.held) (cond (eqb v.next own) (Some (new_held psm v.next (Requested (new_request v)))) None) (whole f own none)

    called : (own : ℕ) (t : Bool) → eqb v.next own ≡ t → request_at for_channel (option_or (find (has_own own) v.held) (cond t (Some (new_held psm v.next (Requested (new_request v)))) None)) ≡ None → copies (errands.Connection own) (asked_queue (errands.Connection v.next) v.queue) ≡ 0
    called own true now none =
        let same : v.next ≡ own = eqb-true v.next own now in
        let unheld : find (has_own own) v.held ≡ None = ap (λ n. find (has_own n) v.held) (sym same) ∙ fresh in
        let never : Some (new_request v) ≡ None = sym (ap (λ h. request_at for_channel (option_or h (Some (new_held psm v.next (Requested (new_request v)))))) unheld) ∙ none in absurd cc
    called own false now none = other (errands.Connection own) (eqb-away v.next own now) (before-new for_channel (find (has_own own) v.held) None none)

    by : (e : Errand) → request_of e (asks (errands.Connection v.next) (with_channel psm (Requested (new_request v)) v)) ≡ None → copies e (asked_queue (errands.Connection v.next) v.queue) ≡ 0
    by (errands.Connection own) none = called own (eqb v.next own) refl (whole for_channel own none)
    by (errands.Configuration own) none = other (errands.Configuration own) refl (old for_options own none)
    by (errands.Disconnection own) none = other (errands.Disconnection own) refl (old for_end own none)
    by errands.Features none = other errands.Features refl none

connects_grounds : (v : Channels) (psm : ℕ) (can : Bool) → find (has_own v.next) v.held ≡ None → Grounds v (cond can (asks (errands.Connection v.next) (with_channel psm (Requested (new_request v)) v)) v)
connects_grounds v psm false fresh = same-grounds v
connects_grounds v psm true fresh = called_grounds v psm fresh

-- ---- commands

says_grounds : (v : Channels) (identifier : ℕ) (response : Option Content) → Grounds v (says identifier response v)
says_grounds v identifier None = same-grounds v
says_grounds v identifier (Some content) =
    still-grounds v (says identifier (Some content) v) refl refl (λ e. let whole = copies-append e v.queue (Answer (record { identifier = identifier; content = content })) in omega (arith, whole))

new_grounds : (v : Channels) (kind : RequestKind) (identifier : ℕ) (response : Option Content) (more : Channels → Channels) (can : Bool) → ((u : Channels) → Grounds u (more u)) → Grounds v (cond can (more (says identifier response (remembers kind identifier response v))) v)
new_grounds v kind identifier response more false goes = same-grounds v
new_grounds v kind identifier response more true goes =
    let t : Channels = remembers kind identifier response v in
    let u : Channels = says identifier response t in
    both-grounds v u (more u) (both-grounds v t u (still-grounds v t refl refl (λ e. omega arith)) (says_grounds t identifier response)) (goes u)

again_grounds : (v : Channels) (identifier : ℕ) (response : Option Content) (can : Bool) → Grounds v (cond can (says identifier response v) v)
again_grounds v identifier response true = says_grounds v identifier response
again_grounds v identifier response false = same-grounds v

kind_grounds : (v : Channels) (last : Option Remembered) (kind : RequestKind) (identifier : ℕ) (response : Option Content) (more : Channels → Channels) → ((u : Channels) → Grounds u (more u)) → Grounds v (hears_kind last kind identifier response more v)
kind_grounds v None kind identifier response more goes = new_grounds v kind identifier response more (can_say response v) goes
kind_grounds v (Some last) kind identifier response more goes = by (eqb last.identifier identifier)
  where
    by : (same : Bool) → Grounds v (cond same (hears_again identifier last.response v) (hears_new kind identifier response more v))
    by true = again_grounds v identifier last.response (can_say last.response v)
    by false = new_grounds v kind identifier response more (can_say response v) goes

content_grounds : (policy : Policy) (identifier : ℕ) (content : Content) (v : Channels) → Grounds v (hears_content policy identifier content v)
content_grounds policy identifier (reject reason rest) v = hears_features_grounds v identifier None
content_grounds policy identifier (connection_request psm source) v = let c : Content = connection_request psm source in kind_grounds v v.memory.connection kinds.Connection identifier (answer_to policy c v) (follows policy c) (follows-grounds policy c)
content_grounds policy identifier (connection_response destination source answer status) v = grant-grounds v source (held_at source v) policy identifier destination answer refl
content_grounds policy identifier (configuration_request destination flags options) v = let c : Content = configuration_request destination flags options in kind_grounds v v.memory.configuration kinds.Configuration identifier (answer_to policy c v) (follows policy c) (follows-grounds policy c)
content_grounds policy identifier (configuration_response source flags answer options) v = response-grounds v source (held_at source v) policy identifier answer options refl
content_grounds policy identifier (disconnection_request destination source) v = let c : Content = disconnection_request destination source in kind_grounds v v.memory.disconnection kinds.Disconnection identifier (answer_to policy c v) (follows policy c) (follows-grounds policy c)
content_grounds policy identifier (disconnection_response destination source) v = end-grounds v (held_at source v) destination
content_grounds policy identifier (echo_request octets) v = let c : Content = echo_request octets in kind_grounds v v.memory.echo kinds.Echo identifier (answer_to policy c v) (follows policy c) (follows-grounds policy c)
content_grounds policy identifier (echo_response octets) v = same-grounds v
content_grounds policy identifier (information_request kind) v = let c : Content = information_request kind in kind_grounds v v.memory.information kinds.Information identifier (answer_to policy c v) (follows policy c) (follows-grounds policy c)
content_grounds policy identifier (information_response kind answer rest) v = hears_features_grounds v identifier (features_in kind answer rest)

malformed_grounds : (kind : Option RequestKind) (identifier : ℕ) (v : Channels) → Grounds v (hears_malformed kind identifier v)
malformed_grounds None identifier v = same-grounds v
malformed_grounds (Some kind) identifier v = kind_grounds v (remembered kind v.memory) kind identifier (Some not_understood) (λ w. w) (λ u. same-grounds u)

unread_grounds : (code identifier : ℕ) (v : Channels) → Grounds v (hears_unread code identifier v)
unread_grounds code identifier v = by (eqb identifier 0) (is_response_code code) (is_kind (kind_of_code code))
  where
    by : (zero response kind : Bool) → Grounds v (cond zero v (cond response v (cond kind (hears_malformed (kind_of_code code) identifier v) (hears_again identifier (Some not_understood) v))))
    by true response kind = same-grounds v
    by false true kind = same-grounds v
    by false false true = malformed_grounds (kind_of_code code) identifier v
    by false false false = again_grounds v identifier (Some not_understood) (can_say (Some not_understood) v)

long_grounds : (identifier : ℕ) (v : Channels) (zero : Bool) → Grounds v (cond zero v (hears_again identifier (Some too_long) v))
long_grounds identifier v true = same-grounds v
long_grounds identifier v false = again_grounds v identifier (Some too_long) (can_say (Some too_long) v)

command_grounds : (policy : Policy) (one : Read) (v : Channels) → Grounds v (hears_command policy one v)
command_grounds policy (Ok command) v = content_grounds policy command.identifier command.content v
command_grounds policy (Err (ZeroIdentifier code identifier)) v = same-grounds v
command_grounds policy (Err (BadLength code None)) v = same-grounds v
command_grounds policy (Err (BadLength code (Some identifier))) v = unread_grounds code identifier v
command_grounds policy (Err (UnknownCode code None)) v = same-grounds v
command_grounds policy (Err (UnknownCode code (Some identifier))) v = unread_grounds code identifier v
command_grounds policy (Err (AboveMtu code None)) v = same-grounds v
command_grounds policy (Err (AboveMtu code (Some identifier))) v = long_grounds identifier v (eqb identifier 0)

commands_grounds : (policy : Policy) (list : List Read) (v : Channels) → Grounds v (hears_commands policy list v)
commands_grounds policy [] v = same-grounds v
commands_grounds policy (one ∷ list) v = let w : Channels = hears_command policy one v in both-grounds v w (hears_commands policy list w) (command_grounds policy one v) (commands_grounds policy list w)

comes_grounds : (policy : Policy) (pdu : List ℕ) (v : Channels) (signals : Bool) → Grounds v (cond signals (hears_commands policy (answers (drop 4 pdu)) v) (takes (channel_of pdu) pdu v))
comes_grounds policy pdu v true = commands_grounds policy (answers (drop 4 pdu)) v
comes_grounds policy pdu v false = takes-grounds (channel_of pdu) pdu v

-- ---- the timer

loses_grounds : (v : Channels) (held : Held) → Grounds v (loses_end held v)
loses_grounds v held = let u : Channels = ends RetryLimit held v in both-grounds v u (loses_end held v) (ends-grounds v held RetryLimit held.stage) (still-grounds u (loses_end held v) refl refl (λ e. omega arith))

-- a request that waits for its response is given once more
again : (v : Channels) (errand : Errand) (request : Request) → request_of errand v ≡ Some request → Grounds v (queued (Ask errand) v)
again v errand request at so e is = here (same_errand e errand) refl
  where
    none : request_of e v ≡ None
    none = sym (same-requests v (queued (Ask errand) v) refl refl e) ∙ is

    here : (t : Bool) → same_errand e errand ≡ t → copies e (v.queue ++ Ask errand ∷ []) ≡ 0
    here true same = let never : None ≡ Some request = sym none ∙ (ap (λ x. request_of x v) (same-is e errand same) ∙ at) in absurd cc
    here false same =
        let whole = copies-append e v.queue (Ask errand) ∙ ap (λ t. copies e v.queue + one_if t) same in
        let zero = so e none in
        omega (arith, whole, zero)

fires_grounds : (tries : ℕ) (v : Channels) (errand : Errand) (request : Request) (spent : Channels → Channels) → request_of errand v ≡ Some request → (is_due errand v ≡ false → Grounds v (spent v)) → Grounds v (times tries errand request spent v)
fires_grounds tries v errand request spent at spends = by (is_due errand v) refl (nat_le tries request.given)
  where
    by : (due : Bool) → is_due errand v ≡ due → (most : Bool) → Grounds v (fires (cond due StillDue (cond most Spent OnceMore)) errand spent v)
    by true d most = same-grounds v
    by false d true = spends d
    by false d false = again v errand request at

carrier_grounds : (v : Channels) (carrier : Option Carrier) (held : Held) (setup : Setup) → find (has_own held.own) v.held ≡ Some held → setup_of held.stage ≡ Some setup → Grounds v (times_carrier carrier held setup v)
carrier_grounds v None held setup found is = same-grounds v
carrier_grounds v (Some (Plain agreed waits)) held setup found is = same-grounds v
carrier_grounds v (Some (Retransmitting machine)) held setup found is = settles-grounds v (timed machine).closed (timed machine) held setup found is

setup_grounds : (tries : ℕ) (v : Channels) (own : Own) (held : Held) (setup : Setup) → setup.own ≡ own → find (has_own held.own) v.held ≡ Some held → setup_of held.stage ≡ Some setup → for_options held.stage ≡ own_request setup.own → Grounds v (times_setup own tries held setup v)
setup_grounds tries v Unasked held setup own_is found is asks = carrier_grounds v setup.carrier held setup found is
setup_grounds tries v (Asking request options) held setup own_is found is asks =
    fires_grounds tries v (errands.Configuration held.own) request (closes RetryLimit held) (ap (request_at for_options) found ∙ (asks ∙ ap own_request own_is)) (λ due. closes-grounds v held RetryLimit found)
setup_grounds tries v Granted held setup own_is found is asks = carrier_grounds v setup.carrier held setup found is

stage_grounds : (tries : ℕ) (v : Channels) (stage : Stage) (held : Held) → held.stage ≡ stage → find (has_own held.own) v.held ≡ Some held → Grounds v (times_stage stage tries held v)
stage_grounds tries v (Requested request) held is found = fires_grounds tries v (errands.Connection held.own) request (closes RetryLimit held) (ap (request_at for_channel) found ∙ ap for_channel is) (λ due. closes-grounds v held RetryLimit found)
stage_grounds tries v (Connected peer setup) held is found = setup_grounds tries v setup.own held setup refl found (ap setup_of is) (ap for_options is)
stage_grounds tries v (Leaving peer setup request) held is found = setup_grounds tries v setup.own held setup refl found (ap setup_of is) (ap for_options is)
stage_grounds tries v (Closing peer request checked) held is found = same-grounds v
stage_grounds tries v (Crossed peer request) held is found = same-grounds v

times_grounds : (tries own : ℕ) (v : Channels) (held : Option Held) → find (has_own own) v.held ≡ held → Grounds v (times_held held tries v)
times_grounds tries own v None is = same-grounds v
times_grounds tries own v (Some held) is = stage_grounds tries v held.stage held refl (found-own own v held is)

end_grounds : (tries : ℕ) (v : Channels) (stage : Stage) (held : Held) → held.stage ≡ stage → find (has_own held.own) v.held ≡ Some held → Grounds v (times_end_at stage tries held v)
end_grounds tries v (Requested request) held is found = same-grounds v
end_grounds tries v (Connected peer setup) held is found = same-grounds v
end_grounds tries v (Leaving peer setup request) held is found =
    fires_grounds tries v (errands.Disconnection held.own) request (ends RetryLimit held) (ap (request_at for_end) found ∙ ap for_end is) (λ due. ends-grounds v held RetryLimit held.stage)
end_grounds tries v (Closing peer request checked) held is found = fires_grounds tries v (errands.Disconnection held.own) request (loses_end held) (ap (request_at for_end) found ∙ ap for_end is) (λ due. loses_grounds v held)
end_grounds tries v (Crossed peer request) held is found = fires_grounds tries v (errands.Disconnection held.own) request (loses_end held) (ap (request_at for_end) found ∙ ap for_end is) (λ due. loses_grounds v held)

ended_grounds : (tries own : ℕ) (v : Channels) (held : Option Held) → find (has_own own) v.held ≡ held → Grounds v (times_end held tries v)
ended_grounds tries own v None is = same-grounds v
ended_grounds tries own v (Some held) is = end_grounds tries v held.stage held refl (found-own own v held is)

channels_grounds : (tries : ℕ) (owns : List ℕ) (v : Channels) → Grounds v (times_channels tries owns v)
channels_grounds tries [] v = same-grounds v
channels_grounds tries (own ∷ owns) v =
    let u : Channels = times_held (held_at own v) tries v in
    let w : Channels = times_end (held_at own u) tries u in
    both-grounds v w (times_channels tries owns w) (both-grounds v u w (times_grounds tries own v (held_at own v) refl) (ended_grounds tries own u (held_at own u) refl)) (channels_grounds tries owns w)

asked_grounds : (tries : ℕ) (v : Channels) (features : Option Request) → v.features ≡ features → Grounds v (times_features features tries v)
asked_grounds tries v None is = same-grounds v
asked_grounds tries v (Some request) is =
    fires_grounds tries v errands.Features request loses_features is (λ due. features_grounds v (loses_features v) refl (copies-none errands.Features v.queue due) (λ e. omega arith))

timed_grounds : (policy : Policy) (v : Channels) → Grounds v (timed_out policy v)
timed_grounds policy v =
    let u : Channels = times_channels policy.tries (map (λ held. held.own) v.held) v in
    both-grounds v u (times_features u.features policy.tries u) (channels_grounds policy.tries (map (λ held. held.own) v.held) v) (asked_grounds policy.tries u u.features refl)

-- ---- the next PDU

abbrev waiting : List Queued → Channels → Channels
waiting queue v = record v { queue = queue }

spent_grounds : (v : Channels) (held : Option Held) → Distinct own_of v.held → find gives v.held ≡ held → Grounds v (held_given held v)
spent_grounds v None lone is = same-grounds v
spent_grounds v (Some held) lone is = by (setup_of held.stage) refl
  where
    by : (setup : Option Setup) → setup_of held.stage ≡ setup → Grounds v (carrier_spent setup held v)
    by None none = same-grounds v
    by (Some setup) some =
        let after : Setup = record setup { carrier = option_map carrier_given setup.carrier } in
        setup-grounds v (to_setup held after v) held setup after (found-distinct own_of gives v.held held lone is) some refl refl (λ e. omega arith) (inr refl)

once : (n : ℕ) (now was : Option Request) → now ≡ option_map one_more was → Lapses n n now was
once n now None is none = inl (refl, omega arith)
once n now (Some request) is none = let never : None ≡ Some (one_more request) = sym none ∙ is in absurd cc

same : (n : ℕ) (now was : Option Request) → now ≡ was → Lapses n n now was
same n now was is none = inl (sym is ∙ none, omega arith)

-- no request of the channel comes or goes with a PDU that is given
abbrev StandsBy : (v : Channels) (held : Held) (after : Stage) → Type 0
StandsBy v held after =
    let m : Errand → ℕ = λ e. copies e v.queue in
    Lapses (m (errands.Connection held.own)) (m (errands.Connection held.own)) (for_channel after) (for_channel held.stage)
    × Lapses (m (errands.Configuration held.own)) (m (errands.Configuration held.own)) (for_options after) (for_options held.stage)
    × Lapses (m (errands.Disconnection held.own)) (m (errands.Disconnection held.own)) (for_end after) (for_end held.stage)

stage_counted : (v : Channels) (given : Stage → Stage) (own : ℕ) (held : Option Held) → ((h : Held) → StandsBy v h (given h.stage)) → find (has_own own) v.held ≡ held → Grounds v (stage_given given held v)
stage_counted v given own None stands is = same-grounds v
stage_counted v given own (Some held) stands is =
    let (one, two, three) = stands held in goes-grounds v (stage_given given (Some held) v) held (given held.stage) (found-own own v held is) refl refl (λ e apart. omega arith) one two three

counted_features : (v : Channels) → Grounds v (counted errands.Features v)
counted_features v so e is = by e is
  where
    asked : (features : Option Request) → option_map one_more features ≡ None → features ≡ None
    asked None none = refl
    asked (Some request) none = cc

    by : (e : Errand) → request_of e (counted errands.Features v) ≡ None → copies e v.queue ≡ 0
    by (errands.Connection own) none = so (errands.Connection own) none
    by (errands.Configuration own) none = so (errands.Configuration own) none
    by (errands.Disconnection own) none = so (errands.Disconnection own) none
    by errands.Features none = so errands.Features (asked v.features none)

counted_grounds : (v : Channels) (errand : Errand) → Grounds v (counted errand v)
counted_grounds v (errands.Connection own) = stage_counted v connection_given own (held_at own v)
    (λ h. let (one, two, three) = connection_once h.stage in (once _ _ _ one, same _ _ _ two, same _ _ _ three)) refl
counted_grounds v (errands.Configuration own) = stage_counted v configuration_given own (held_at own v)
    (λ h. let (one, two, three) = configuration_once h.stage in (same _ _ _ one, once _ _ _ two, same _ _ _ three)) refl
counted_grounds v (errands.Disconnection own) = stage_counted v disconnection_given own (held_at own v)
    (λ h. let (one, two, three) = disconnection_once h.stage in (same _ _ _ one, same _ _ _ two, once _ _ _ three)) refl
counted_grounds v errands.Features = counted_features v

behind_grounds : (v : Channels) (one : Queued) (behind : List Queued) → v.queue ≡ one ∷ behind → Grounds v (waiting behind v)
behind_grounds v one behind is = still-grounds v (waiting behind v) refl refl (λ e. let whole : copies e v.queue ≡ one_if (is_copy e one) + copies e behind = ap (copies e) is in omega (arith, whole))

given_grounds : (v : Channels) (queue : List Queued) → v.queue ≡ queue → Distinct own_of v.held → Grounds v (queue_given queue v)
given_grounds v [] is lone = spent_grounds v (find gives v.held) lone refl
given_grounds v (Answer command ∷ behind) is lone = behind_grounds v (Answer command) behind is
given_grounds v (Ask errand ∷ behind) is lone =
    let u : Channels = waiting behind v in both-grounds v u (counted errand u) (behind_grounds v (Ask errand) behind is) (counted_grounds u errand)

-- ---- whatever happens

one_grounds : (policy : Policy) (more : Occurrence) (v : Channels) → find (has_own v.next) v.held ≡ None → Distinct own_of v.held → Grounds v (value_after policy more v)
one_grounds policy (Comes pdu) v fresh lone = comes_grounds policy pdu v (eqb (channel_of pdu) 0x0001)
one_grounds policy (Connects psm) v fresh lone = connects_grounds v psm (can_connect v) fresh
one_grounds policy AsksFeatures v fresh lone = asks_features_grounds v (is_some v.features)
one_grounds policy (Disconnects own) v fresh lone = disconnects-grounds own v
one_grounds policy (Sends own sdu) v fresh lone = sends-grounds own sdu v
one_grounds policy (Gives pdu) v fresh lone = given_grounds v v.queue refl lone
one_grounds policy Fires v fresh lone = timed_grounds policy v
one_grounds policy Tells v fresh lone = still-grounds v (value_after policy Tells v) refl refl (λ e. omega arith)

pub all-grounded : (policy : Policy) (list : List Occurrence) → Grounded (run_of policy list).value
all-grounded policy list =
    (along policy (λ run. Grounded run.value) (λ e is. refl) (λ run more sound so. one_grounds policy more run.value (sound.core.held_below run.value.next (omega arith)) sound.core.lone so) list).1
