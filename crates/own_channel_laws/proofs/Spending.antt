-- A host gives each request at most as often as it tries.
use Rattle.std.proofs.Common.{append_assoc, append-nil, ◌≡◌, ℕ, ◌+◌, ◌<◌, ◌≤◌, List, [], ◌∷◌, ◌++◌, map, drop, Bool, true, false, cond, eqb, not, Option, Some, None, Ok, Err, refl, sym, ap, subst, ◌∙◌, ◌⊎◌, inl, inr, arith}
use Rattle.std.specs.Prelude.{find, is_some, nat_le}
use Rattle.std.specs.Option.{option_or}
use Rattle.std.proofs.lemmas.Bool.{eqb-true, leb-false}
use Rattle.talk_laws.specs.acl_fragments.specs.Pieces.{channel_of}
use Rattle.talk_laws.specs.l2cap_signal.specs.Commands.{Content, reject, connection_request, connection_response, configuration_request, configuration_response, disconnection_request, disconnection_response, echo_request, echo_response, information_request, information_response}
use Rattle.talk_laws.specs.l2cap_signal.specs.Reading.{Answer as Read, answers}
use Rattle.talk_laws.specs.l2cap_signal.specs.declared.refusal.SignalRefusal.TheVariants.{ZeroIdentifier, BadLength, UnknownCode, AboveMtu}
use Rattle.channel_model.specs.ertm_model.specs.Giving.{timed}
use Rattle.channel_model.specs.declared.errand.Errand.{Errand}
use Rattle.channel_model.specs.declared.errand.Errand.TheVariants as errands
use Rattle.channel_model.specs.declared.event.ChannelEvent.TheVariants.{Features}
use Rattle.channel_model.specs.declared.event.CloseReason.TheVariants.{RetryLimit}
use Rattle.channel_model.specs.declared.request_kind.RequestKind.{RequestKind}
use Rattle.channel_model.specs.declared.request_kind.RequestKind.TheVariants as kinds
use Rattle.channel_model.specs.Value.{Request, Answer, Ask, Own, Unasked, Asking, Granted, Carrier, Plain, Retransmitting, Setup, Stage, Requested, Connected, Leaving, Closing, Crossed, Held, Remembered, Channels}
use Rattle.channel_model.specs.Policies.{Policy}
use Rattle.channel_model.specs.Changing.{has_own, held_at, setup_of, same_errand, is_copy, is_due, queued, forgets, tells}
use Rattle.channel_model.specs.Asking.{new_request, asks, StillDue, OnceMore, Spent}
use Rattle.channel_model.specs.Closing.{closes, ends}
use Rattle.channel_model.specs.Answers.{kind_of_code, remembered, not_understood, too_long, answer_to}
use Rattle.channel_model.specs.Following.{with_channel, follows, remembers, says, can_say, hears_new, hears_again, hears_kind}
use Rattle.channel_model.specs.Responses.{has_identifier, hears_features, features_in}
use Rattle.channel_model.specs.Hearing.{hears_content, hears_malformed, is_response_code, is_kind, hears_unread, hears_command, hears_commands}
use Rattle.channel_model.specs.Carrying.{takes}
use Rattle.channel_model.specs.Timing.{fires, times, times_carrier, times_setup, times_stage, times_held, loses_end, times_end_at, times_end, loses_features, times_features, times_channels, timed_out}
use Rattle.channel_model.specs.Giving.{gives}
use Rattle.channel_model.specs.Calls.{can_connect}
use Rattle.channel_model.proofs.Lookups.{own_of, Distinct, eqb-away, find-append}
use Rattle.channel_model.proofs.Going.{new_held}
use Rattle.channel_model.proofs.Walking.{found-own}
use Rattle.own_channel_laws.specs.Runs.{Occurrence, Comes, Connects, AsksFeatures, Disconnects, Sends, Gives, Fires, Tells, value_after, Run, new_link, run_on, run_of}
use Rattle.std.proofs.lemmas.List.Sums.{fold-append}
use Rattle.talk_laws.proofs.Passes.{from_end}
use Rattle.own_channel_laws.specs.Tries.{firings, FiringsAreCounted, FiringsAreCountedSince, for_channel, own_request, for_options, for_end, request_at, request_of, one_if, copies, is_firing, TriesAreKept, FiringsAloneRepeat}
use Rattle.own_channel_laws.proofs.Running.{IsSound, along, all-sound}
use Rattle.own_channel_laws.proofs.Trying.{copies-less, copies-append, copies-none, copies-asked, copies-others, By, Tame, both-tame, still-tame, same-tame, same-requests}
use Rattle.own_channel_laws.proofs.Dispatching.{Gave, gives-pass}
use Rattle.own_channel_laws.proofs.Sparing.{closes-tame, ends-tame, follows-tame, grant-tame, response-tame, end-tame, settles-tame, takes-tame, disconnects-tame, sends-tame}

-- ---- features and new channels

features_tame : (v w : Channels) → w.held ≡ v.held → w.features ≡ None → ((e : Errand) → copies e w.queue ≤ copies e v.queue) → Tame v w
features_tame v w held_is none less e r is = by e r is
  where
    by : (e : Errand) (r : Request) → request_of e w ≡ Some r → By (copies e w.queue) (copies e v.queue) (request_of e v) r
    by (errands.Connection own) r is = inr (sym (ap (λ hs. request_at for_channel (find (has_own own) hs)) held_is) ∙ is, less (errands.Connection own))
    by (errands.Configuration own) r is = inr (sym (ap (λ hs. request_at for_options (find (has_own own) hs)) held_is) ∙ is, less (errands.Configuration own))
    by (errands.Disconnection own) r is = inr (sym (ap (λ hs. request_at for_end (find (has_own own) hs)) held_is) ∙ is, less (errands.Disconnection own))
    by errands.Features r is = let never : None ≡ Some r = sym none ∙ is in absurd cc

hears_features_tame : (v : Channels) (identifier : ℕ) (given : Option ℕ) → Tame v (hears_features identifier given v)
hears_features_tame v identifier given = by (has_identifier identifier v.features)
  where
    by : (same : Bool) → Tame v (cond same (tells (Features given) (forgets errands.Features (record v { features = None }))) v)
    by true = features_tame v (tells (Features given) (forgets errands.Features (record v { features = None }))) refl refl (λ e. copies-less e (λ x. not (is_copy errands.Features x)) v.queue)
    by false = same-tame v

asked_features : (v : Channels) → Tame v (asks errands.Features (record v { features = Some (new_request v) }))
asked_features v e r is = by e r is
  where
    w : Channels
    w = asks errands.Features (record v { features = Some (new_request v) })

    by : (e : Errand) (r : Request) → request_of e w ≡ Some r → By (copies e w.queue) (copies e v.queue) (request_of e v) r
    by (errands.Connection own) r is = inr (is, copies-others (errands.Connection own) errands.Features v.queue refl)
    by (errands.Configuration own) r is = inr (is, copies-others (errands.Configuration own) errands.Features v.queue refl)
    by (errands.Disconnection own) r is = inr (is, copies-others (errands.Disconnection own) errands.Features v.queue refl)
    by errands.Features r is =
        let same : new_request v ≡ r = cc in
        let none : r.given ≡ 0 = ap (λ (x : Request). x.given) (sym same) in
        let one = copies-asked errands.Features v.queue in
        inl (none, omega (arith, one))

asks_features_tame : (v : Channels) (asked : Bool) → (let w : Channels = asks errands.Features (record v { features = Some (new_request v) }) in Tame v (cond asked v w))
asks_features_tame v true = same-tame v
asks_features_tame v false = asked_features v

called_tame : (v : Channels) (psm : ℕ) → find (has_own v.next) v.held ≡ None → Tame v (asks (errands.Connection v.next) (with_channel psm (Requested (new_request v)) v))
called_tame v psm none e r is = by e r is
  where
    new : Held
    new = new_held psm v.next (Requested (new_request v))

    w : Channels
    w = asks (errands.Connection v.next) (with_channel psm (Requested (new_request v)) v)

    -- it asks for nothing else
    at : (f : Stage → Option Request) (found : Option Held) (t : Bool) (r : Request) → f (Requested (new_request v)) ≡ None → request_at f (option_or found (cond t (Some new) None)) ≡ Some r → request_at f found ≡ Some r
    at f None true r empty some = let never : None ≡ Some r = sym empty ∙ some in absurd cc
    at f None false r empty some = some
    at f (Some held) t r empty some = some

    old : (found : Option Held) (r : Request) → request_at for_channel (option_or found None) ≡ Some r → request_at for_channel found ≡ Some r
    old None r some = some
    old (Some held) r some = some

    called : (own : ℕ) (r : Request) (t : Bool) → eqb v.next own ≡ t → request_at for_channel (option_or (find (has_own own) v.held) (cond t (Some new) None)) ≡ Some r
        → By (copies (errands.Connection own) w.queue) (copies (errands.Connection own) v.queue) (request_at for_channel (find (has_own own) v.held)) r
    called own r true now some =
        let same : v.next ≡ own = eqb-true v.next own now in
        let unheld : find (has_own own) v.held ≡ None = ap (λ n. find (has_own n) v.held) (sym same) ∙ none in
        let request : Some (new_request v) ≡ Some r = sym (ap (λ h. request_at for_channel (option_or h (Some new))) unheld) ∙ some in
        let it : new_request v ≡ r = cc in
        let nothing : r.given ≡ 0 = ap (λ (x : Request). x.given) (sym it) in
        let one : copies (errands.Connection own) w.queue ≡ 1 = ap (λ n. copies (errands.Connection n) w.queue) (sym same) ∙ copies-asked (errands.Connection v.next) v.queue in
        inl (nothing, omega (arith, one))
    called own r false now some =
        inr (old (find (has_own own) v.held) r some, copies-others (errands.Connection own) (errands.Connection v.next) v.queue (eqb-away v.next own now))

    by : (e : Errand) (r : Request) → request_of e w ≡ Some r → By (copies e w.queue) (copies e v.queue) (request_of e v) r
    by (errands.Connection own) r is = called own r (eqb v.next own) refl (sym (ap (request_at for_channel) (find-append own_of own v.held new)) ∙ is)
    by (errands.Configuration own) r is =
        inr (at for_options (find (has_own own) v.held) (eqb v.next own) r refl (sym (ap (request_at for_options) (find-append own_of own v.held new)) ∙ is), copies-others (errands.Configuration own) (errands.Connection v.next) v.queue refl)
    by (errands.Disconnection own) r is =
        inr (at for_end (find (has_own own) v.held) (eqb v.next own) r refl (sym (ap (request_at for_end) (find-append own_of own v.held new)) ∙ is), copies-others (errands.Disconnection own) (errands.Connection v.next) v.queue refl)
    by errands.Features r is = inr (is, copies-others errands.Features (errands.Connection v.next) v.queue refl)

connects_tame : (v : Channels) (psm : ℕ) (can : Bool) → find (has_own v.next) v.held ≡ None → (let w : Channels = asks (errands.Connection v.next) (with_channel psm (Requested (new_request v)) v) in Tame v (cond can w v))
connects_tame v psm false none = same-tame v
connects_tame v psm true none = called_tame v psm none

-- ---- commands

says_tame : (v : Channels) (identifier : ℕ) (response : Option Content) → Tame v (says identifier response v)
says_tame v identifier None = same-tame v
says_tame v identifier (Some content) =
    still-tame v (says identifier (Some content) v) refl refl (λ e. let whole = copies-append e v.queue (Answer (record { identifier = identifier; content = content })) in omega (arith, whole))

new_tame : (v : Channels) (kind : RequestKind) (identifier : ℕ) (response : Option Content) (more : Channels → Channels) (can : Bool) → ((u : Channels) → Tame u (more u)) → Tame v (cond can (more (says identifier response (remembers kind identifier response v))) v)
new_tame v kind identifier response more false goes = same-tame v
new_tame v kind identifier response more true goes =
    let t : Channels = remembers kind identifier response v in
    let u : Channels = says identifier response t in
    both-tame v u (more u) (both-tame v t u (still-tame v t refl refl (λ e. omega arith)) (says_tame t identifier response)) (goes u)

again_tame : (v : Channels) (identifier : ℕ) (response : Option Content) (can : Bool) → Tame v (cond can (says identifier response v) v)
again_tame v identifier response true = says_tame v identifier response
again_tame v identifier response false = same-tame v

kind_tame : (v : Channels) (last : Option Remembered) (kind : RequestKind) (identifier : ℕ) (response : Option Content) (more : Channels → Channels) → ((u : Channels) → Tame u (more u)) → Tame v (hears_kind last kind identifier response more v)
kind_tame v None kind identifier response more goes = new_tame v kind identifier response more (can_say response v) goes
kind_tame v (Some last) kind identifier response more goes = by (eqb last.identifier identifier)
  where
    by : (same : Bool) → Tame v (cond same (hears_again identifier last.response v) (hears_new kind identifier response more v))
    by true = again_tame v identifier last.response (can_say last.response v)
    by false = new_tame v kind identifier response more (can_say response v) goes

content_tame : (policy : Policy) (identifier : ℕ) (content : Content) (v : Channels) → Tame v (hears_content policy identifier content v)
content_tame policy identifier (reject reason rest) v = hears_features_tame v identifier None
content_tame policy identifier (connection_request psm source) v = let c : Content = connection_request psm source in kind_tame v v.memory.connection kinds.Connection identifier (answer_to policy c v) (follows policy c) (follows-tame policy c)
content_tame policy identifier (connection_response destination source answer status) v = grant-tame v source (held_at source v) policy identifier destination answer refl
content_tame policy identifier (configuration_request destination flags options) v = let c : Content = configuration_request destination flags options in kind_tame v v.memory.configuration kinds.Configuration identifier (answer_to policy c v) (follows policy c) (follows-tame policy c)
content_tame policy identifier (configuration_response source flags answer options) v = response-tame v source (held_at source v) policy identifier answer options refl
content_tame policy identifier (disconnection_request destination source) v = let c : Content = disconnection_request destination source in kind_tame v v.memory.disconnection kinds.Disconnection identifier (answer_to policy c v) (follows policy c) (follows-tame policy c)
content_tame policy identifier (disconnection_response destination source) v = end-tame v (held_at source v) destination
content_tame policy identifier (echo_request octets) v = let c : Content = echo_request octets in kind_tame v v.memory.echo kinds.Echo identifier (answer_to policy c v) (follows policy c) (follows-tame policy c)
content_tame policy identifier (echo_response octets) v = same-tame v
content_tame policy identifier (information_request kind) v = let c : Content = information_request kind in kind_tame v v.memory.information kinds.Information identifier (answer_to policy c v) (follows policy c) (follows-tame policy c)
content_tame policy identifier (information_response kind answer rest) v = hears_features_tame v identifier (features_in kind answer rest)

malformed_tame : (kind : Option RequestKind) (identifier : ℕ) (v : Channels) → Tame v (hears_malformed kind identifier v)
malformed_tame None identifier v = same-tame v
malformed_tame (Some kind) identifier v = kind_tame v (remembered kind v.memory) kind identifier (Some not_understood) (λ w. w) (λ u. same-tame u)

unread_tame : (code identifier : ℕ) (v : Channels) → Tame v (hears_unread code identifier v)
unread_tame code identifier v = by (eqb identifier 0) (is_response_code code) (is_kind (kind_of_code code))
  where
    by : (zero response kind : Bool) → Tame v (cond zero v (cond response v (cond kind (hears_malformed (kind_of_code code) identifier v) (hears_again identifier (Some not_understood) v))))
    by true response kind = same-tame v
    by false true kind = same-tame v
    by false false true = malformed_tame (kind_of_code code) identifier v
    by false false false = again_tame v identifier (Some not_understood) (can_say (Some not_understood) v)

long_tame : (identifier : ℕ) (v : Channels) (zero : Bool) → Tame v (cond zero v (hears_again identifier (Some too_long) v))
long_tame identifier v true = same-tame v
long_tame identifier v false = again_tame v identifier (Some too_long) (can_say (Some too_long) v)

command_tame : (policy : Policy) (one : Read) (v : Channels) → Tame v (hears_command policy one v)
command_tame policy (Ok command) v = content_tame policy command.identifier command.content v
command_tame policy (Err (ZeroIdentifier code identifier)) v = same-tame v
command_tame policy (Err (BadLength code None)) v = same-tame v
command_tame policy (Err (BadLength code (Some identifier))) v = unread_tame code identifier v
command_tame policy (Err (UnknownCode code None)) v = same-tame v
command_tame policy (Err (UnknownCode code (Some identifier))) v = unread_tame code identifier v
command_tame policy (Err (AboveMtu code None)) v = same-tame v
command_tame policy (Err (AboveMtu code (Some identifier))) v = long_tame identifier v (eqb identifier 0)

commands_tame : (policy : Policy) (list : List Read) (v : Channels) → Tame v (hears_commands policy list v)
commands_tame policy [] v = same-tame v
commands_tame policy (one ∷ list) v = let w : Channels = hears_command policy one v in both-tame v w (hears_commands policy list w) (command_tame policy one v) (commands_tame policy list w)

comes_tame : (policy : Policy) (pdu : List ℕ) (v : Channels) (signals : Bool) → Tame v (cond signals (hears_commands policy (answers (drop 4 pdu)) v) (takes (channel_of pdu) pdu v))
comes_tame policy pdu v true = commands_tame policy (answers (drop 4 pdu)) v
comes_tame policy pdu v false = takes-tame (channel_of pdu) pdu v

-- ---- what always holds

abbrev pub Kept : Errand → (most : ℕ) → Channels → Type 0
Kept e most v = (r : Request) → request_of e v ≡ Some r → copies e v.queue + r.given ≤ most

-- in short: a request is new, with at most one copy, or it was there, and was given no more often, with its copies
abbrev pub Less : (after before : ℕ) → Option Request → Request → Type 0
Less after before was r = (after + r.given ≤ 1) ⊎ ((r' : Request) × (was ≡ Some r') × (after + r.given ≤ before + r'.given))

by_less : (after before : ℕ) (was : Option Request) (r : Request) → By after before was r → Less after before was r
by_less after before was r (inl (none, few)) = inl (omega (arith, none, few))
by_less after before was r (inr (is, less)) = inr (r, is, omega (arith, less))

gave_less : (after before : ℕ) (was : Option Request) (r : Request) → Gave after before was r → Less after before was r
gave_less after before was r (r', is, same, less) = inr (r', is, less)

pub pass-less : (after before : ℕ) (was : Option Request) (r : Request) → By after before was r ⊎ Gave after before was r → Less after before was r
pass-less after before was r (inl by) = by_less after before was r by
pass-less after before was r (inr gave) = gave_less after before was r gave

abbrev pub Lessens : Channels → Channels → Type 0
Lessens v w = (e : Errand) (r : Request) → request_of e w ≡ Some r → Less (copies e w.queue) (copies e v.queue) (request_of e v) r

tame_lessens : (v w : Channels) → Tame v w → Lessens v w
tame_lessens v w tame e r is = by_less (copies e w.queue) (copies e v.queue) (request_of e v) r (tame e r is)

pub kept-less : (e : Errand) (most : ℕ) (v w : Channels) → 1 ≤ most → Lessens v w → Kept e most v → Kept e most w
kept-less e most v w some lessens so_far r is = by (lessens e r is)
  where
    by : Less (copies e w.queue) (copies e v.queue) (request_of e v) r → copies e w.queue + r.given ≤ most
    by (inl new) = omega (arith, new, some)
    by (inr (was, was_is, less)) = let bound = so_far was was_is in omega (arith, less, bound)

pub kept-tame : (e : Errand) (most : ℕ) (v w : Channels) → 1 ≤ most → Tame v w → Kept e most v → Kept e most w
kept-tame e most v w some tame = kept-less e most v w some (tame_lessens v w tame)

pub same-is : (e errand : Errand) → same_errand e errand ≡ true → e ≡ errand
same-is (errands.Connection m) (errands.Connection n) is = ap errands.Connection (eqb-true m n is)
same-is (errands.Connection m) (errands.Configuration n) is = cc
same-is (errands.Connection m) (errands.Disconnection n) is = cc
same-is (errands.Connection m) errands.Features is = cc
same-is (errands.Configuration m) (errands.Connection n) is = cc
same-is (errands.Configuration m) (errands.Configuration n) is = ap errands.Configuration (eqb-true m n is)
same-is (errands.Configuration m) (errands.Disconnection n) is = cc
same-is (errands.Configuration m) errands.Features is = cc
same-is (errands.Disconnection m) (errands.Connection n) is = cc
same-is (errands.Disconnection m) (errands.Configuration n) is = cc
same-is (errands.Disconnection m) (errands.Disconnection n) is = ap errands.Disconnection (eqb-true m n is)
same-is (errands.Disconnection m) errands.Features is = cc
same-is errands.Features (errands.Connection n) is = cc
same-is errands.Features (errands.Configuration n) is = cc
same-is errands.Features (errands.Disconnection n) is = cc
same-is errands.Features errands.Features is = refl

-- ---- the timer

-- something of a request, as how often it was given so far
abbrev pub OfRequest : Type 1
OfRequest = Request → Type 0

abbrev pub Each : Errand → OfRequest → Channels → Type 0
Each e P v = (r : Request) → request_of e v ≡ Some r → P r

abbrev Holds : Errand → (most : ℕ) (P : OfRequest) → Channels → Type 0
Holds e most P v = Kept e most v × Each e P v

-- of a new one
abbrev Fresh : OfRequest → Type 0
Fresh P = (r : Request) → r.given ≡ 0 → P r

-- of one that may be given again
record Bound (most : ℕ) (P : OfRequest) (tries : ℕ) : Type 0 where
  fresh : Fresh P
  more : (r : Request) → P r → nat_le tries r.given ≡ false → r.given < most

spends_on : (e : Errand) (most : ℕ) (P : OfRequest) (v w : Channels) → 1 ≤ most → Fresh P → Tame v w → Holds e most P v → Holds e most P w
spends_on e most P v w some fresh tame (so_far, below) = (kept-less e most v w some (tame_lessens v w tame) so_far, λ r is. by r (tame e r is))
  where
    by : (r : Request) → By (copies e w.queue) (copies e v.queue) (request_of e v) r → P r
    by r (inl (none, few)) = fresh r none
    by r (inr (was, less)) = below r was

loses_tame : (v : Channels) (held : Held) → Tame v (loses_end held v)
loses_tame v held = let u : Channels = ends RetryLimit held v in both-tame v u (loses_end held v) (ends-tame v held RetryLimit held.stage) (still-tame u (loses_end held v) refl refl (λ e. omega arith))

-- a request is given once more
fires_kept : (e : Errand) (most : ℕ) (P : OfRequest) (tries : ℕ) (v : Channels) (errand : Errand) (request : Request) (spent : Channels → Channels) → 1 ≤ most → Bound most P tries → request_of errand v ≡ Some request → Tame v (spent v) → Holds e most P v
    → Holds e most P (times tries errand request spent v)
fires_kept e most P tries v errand request spent some bound at spends (so_far, below) = by (is_due errand v) refl (nat_le tries request.given) refl
  where
    again : is_due errand v ≡ false → nat_le tries request.given ≡ false → Kept e most (queued (Ask errand) v)
    again new more r is = here (same_errand e errand) refl
      where
        was : request_of e v ≡ Some r
        was = sym (same-requests v (queued (Ask errand) v) refl refl e) ∙ is

        here : (t : Bool) → same_errand e errand ≡ t → copies e (v.queue ++ Ask errand ∷ []) + r.given ≤ most
        here true same =
            let it : e ≡ errand = same-is e errand same in
            let none : copies e v.queue ≡ 0 = ap (λ x. copies x v.queue) it ∙ copies-none errand v.queue new in
            let found : Some r ≡ Some request = sym was ∙ (ap (λ x. request_of x v) it ∙ at) in
            let one : r ≡ request = cc in
            let given : r.given ≡ request.given = ap (λ (x : Request). x.given) one in
            let less : request.given < most = bound.more request (below request (ap (λ x. request_of x v) it ∙ at)) more in
            let whole = copies-append e v.queue (Ask errand) ∙ ap (λ t. copies e v.queue + one_if t) same in
            omega (arith, none, given, less, whole)
        here false same =
            let whole = copies-append e v.queue (Ask errand) ∙ ap (λ t. copies e v.queue + one_if t) same in
            let few = so_far r was in
            omega (arith, whole, few)

    by : (due : Bool) → is_due errand v ≡ due → (most' : Bool) → nat_le tries request.given ≡ most' → Holds e most P (fires (cond due StillDue (cond most' Spent OnceMore)) errand spent v)
    by true d most' m = (so_far, below)
    by false d true m = spends_on e most P v (spent v) some bound.fresh spends (so_far, below)
    by false d false m = (again d m, λ r is. below r (sym (same-requests v (queued (Ask errand) v) refl refl e) ∙ is))

carrier_kept : (e : Errand) (most : ℕ) (P : OfRequest) (v : Channels) (carrier : Option Carrier) (held : Held) (setup : Setup) → 1 ≤ most → Fresh P → find (has_own held.own) v.held ≡ Some held → setup_of held.stage ≡ Some setup → Holds e most P v → Holds e most P (times_carrier carrier held setup v)
carrier_kept e most P v None held setup some fresh found is so_far = so_far
carrier_kept e most P v (Some (Plain agreed waits)) held setup some fresh found is so_far = so_far
carrier_kept e most P v (Some (Retransmitting machine)) held setup some fresh found is so_far =
    spends_on e most P v (times_carrier (Some (Retransmitting machine)) held setup v) some fresh (settles-tame v (timed machine).closed (timed machine) held setup found is) so_far

setup_kept : (e : Errand) (most : ℕ) (P : OfRequest) (tries : ℕ) (v : Channels) (own : Own) (held : Held) (setup : Setup) → setup.own ≡ own → 1 ≤ most → Bound most P tries → find (has_own held.own) v.held ≡ Some held → setup_of held.stage ≡ Some setup → for_options held.stage ≡ own_request setup.own → Holds e most P v
    → Holds e most P (times_setup own tries held setup v)
setup_kept e most P tries v Unasked held setup own_is some bound found is asks so_far = carrier_kept e most P v setup.carrier held setup some bound.fresh found is so_far
setup_kept e most P tries v (Asking request options) held setup own_is some bound found is asks so_far =
    fires_kept e most P tries v (errands.Configuration held.own) request (closes RetryLimit held) some bound (ap (request_at for_options) found ∙ (asks ∙ ap own_request own_is)) (closes-tame v held RetryLimit found) so_far
setup_kept e most P tries v Granted held setup own_is some bound found is asks so_far = carrier_kept e most P v setup.carrier held setup some bound.fresh found is so_far

stage_kept : (e : Errand) (most : ℕ) (P : OfRequest) (tries : ℕ) (v : Channels) (stage : Stage) (held : Held) → held.stage ≡ stage → 1 ≤ most → Bound most P tries → find (has_own held.own) v.held ≡ Some held → Holds e most P v → Holds e most P (times_stage stage tries held v)
stage_kept e most P tries v (Requested request) held is some bound found so_far =
    fires_kept e most P tries v (errands.Connection held.own) request (closes RetryLimit held) some bound (ap (request_at for_channel) found ∙ ap for_channel is) (closes-tame v held RetryLimit found) so_far
stage_kept e most P tries v (Connected peer setup) held is some bound found so_far = setup_kept e most P tries v setup.own held setup refl some bound found (ap setup_of is) (ap for_options is) so_far
stage_kept e most P tries v (Leaving peer setup request) held is some bound found so_far = setup_kept e most P tries v setup.own held setup refl some bound found (ap setup_of is) (ap for_options is) so_far
stage_kept e most P tries v (Closing peer request checked) held is some bound found so_far = so_far
stage_kept e most P tries v (Crossed peer request) held is some bound found so_far = so_far

held_kept : (e : Errand) (most : ℕ) (P : OfRequest) (tries own : ℕ) (v : Channels) (held : Option Held) → 1 ≤ most → Bound most P tries → find (has_own own) v.held ≡ held → Holds e most P v → Holds e most P (times_held held tries v)
held_kept e most P tries own v None some bound is so_far = so_far
held_kept e most P tries own v (Some held) some bound is so_far = stage_kept e most P tries v held.stage held refl some bound (found-own own v held is) so_far

end_kept : (e : Errand) (most : ℕ) (P : OfRequest) (tries : ℕ) (v : Channels) (stage : Stage) (held : Held) → held.stage ≡ stage → 1 ≤ most → Bound most P tries → find (has_own held.own) v.held ≡ Some held → Holds e most P v → Holds e most P (times_end_at stage tries held v)
end_kept e most P tries v (Requested request) held is some bound found so_far = so_far
end_kept e most P tries v (Connected peer setup) held is some bound found so_far = so_far
end_kept e most P tries v (Leaving peer setup request) held is some bound found so_far =
    fires_kept e most P tries v (errands.Disconnection held.own) request (ends RetryLimit held) some bound (ap (request_at for_end) found ∙ ap for_end is) (ends-tame v held RetryLimit held.stage) so_far
end_kept e most P tries v (Closing peer request checked) held is some bound found so_far =
    fires_kept e most P tries v (errands.Disconnection held.own) request (loses_end held) some bound (ap (request_at for_end) found ∙ ap for_end is) (loses_tame v held) so_far
end_kept e most P tries v (Crossed peer request) held is some bound found so_far =
    fires_kept e most P tries v (errands.Disconnection held.own) request (loses_end held) some bound (ap (request_at for_end) found ∙ ap for_end is) (loses_tame v held) so_far

ended_kept : (e : Errand) (most : ℕ) (P : OfRequest) (tries own : ℕ) (v : Channels) (held : Option Held) → 1 ≤ most → Bound most P tries → find (has_own own) v.held ≡ held → Holds e most P v → Holds e most P (times_end held tries v)
ended_kept e most P tries own v None some bound is so_far = so_far
ended_kept e most P tries own v (Some held) some bound is so_far = end_kept e most P tries v held.stage held refl some bound (found-own own v held is) so_far

channels_kept : (e : Errand) (most : ℕ) (P : OfRequest) (tries : ℕ) (owns : List ℕ) (v : Channels) → 1 ≤ most → Bound most P tries → Holds e most P v → Holds e most P (times_channels tries owns v)
channels_kept e most P tries [] v some bound so_far = so_far
channels_kept e most P tries (own ∷ owns) v some bound so_far =
    let u : Channels = times_held (held_at own v) tries v in
    let w : Channels = times_end (held_at own u) tries u in
    channels_kept e most P tries owns w some bound (ended_kept e most P tries own u (held_at own u) some bound refl (held_kept e most P tries own v (held_at own v) some bound refl so_far))

features_kept : (e : Errand) (most : ℕ) (P : OfRequest) (tries : ℕ) (v : Channels) (features : Option Request) → v.features ≡ features → 1 ≤ most → Bound most P tries → Holds e most P v → Holds e most P (times_features features tries v)
features_kept e most P tries v None is some bound so_far = so_far
features_kept e most P tries v (Some request) is some bound so_far =
    fires_kept e most P tries v errands.Features request loses_features some bound is (features_tame v (loses_features v) refl refl (λ x. omega arith)) so_far

-- the host gives its next PDU
abbrev pub is_giving : Occurrence → Bool
is_giving (Comes pdu) = false
is_giving (Connects psm) = false
is_giving AsksFeatures = false
is_giving (Disconnects own) = false
is_giving (Sends own sdu) = false
is_giving (Gives pdu) = true
is_giving Fires = false
is_giving Tells = false

-- whatever happens but a firing, and where nothing is given
pub one-tame : (policy : Policy) (more : Occurrence) (v : Channels) → is_firing more ≡ false → is_giving more ≡ false → find (has_own v.next) v.held ≡ None → Tame v (value_after policy more v)
one-tame policy (Comes pdu) v other gives none = comes_tame policy pdu v (eqb (channel_of pdu) 0x0001)
one-tame policy (Connects psm) v other gives none = connects_tame v psm (can_connect v) none
one-tame policy AsksFeatures v other gives none = asks_features_tame v (is_some v.features)
one-tame policy (Disconnects own) v other gives none = disconnects-tame own v
one-tame policy (Sends own sdu) v other gives none = sends-tame own sdu v
one-tame policy (Gives pdu) v other gives none = cc
one-tame policy Fires v other gives none = cc
one-tame policy Tells v other gives none = still-tame v (value_after policy Tells v) refl refl (λ e. omega arith)

one_lessens : (policy : Policy) (more : Occurrence) (v : Channels) → is_firing more ≡ false → find (has_own v.next) v.held ≡ None → Distinct own_of v.held → Lessens v (value_after policy more v)
one_lessens policy more v other none lone = by more other (is_giving more) refl
  where
    by : (one : Occurrence) → is_firing one ≡ false → (gives : Bool) → is_giving one ≡ gives → Lessens v (value_after policy one v)
    by (Gives pdu) fires true gives = λ e r is. pass-less (copies e (value_after policy (Gives pdu) v).queue) (copies e v.queue) (request_of e v) r (gives-pass v v.queue refl lone e r is)
    by (Gives pdu) fires false gives = cc
    by (Comes pdu) fires b gives = tame_lessens v (value_after policy (Comes pdu) v) (one-tame policy (Comes pdu) v refl refl none)
    by (Connects psm) fires b gives = tame_lessens v (value_after policy (Connects psm) v) (one-tame policy (Connects psm) v refl refl none)
    by AsksFeatures fires b gives = tame_lessens v (value_after policy AsksFeatures v) (one-tame policy AsksFeatures v refl refl none)
    by (Disconnects own) fires b gives = tame_lessens v (value_after policy (Disconnects own) v) (one-tame policy (Disconnects own) v refl refl none)
    by (Sends own sdu) fires b gives = tame_lessens v (value_after policy (Sends own sdu) v) (one-tame policy (Sends own sdu) v refl refl none)
    by Fires fires b gives = cc
    by Tells fires b gives = tame_lessens v (value_after policy Tells v) (one-tame policy Tells v refl refl none)

timed_holds : (policy : Policy) (e : Errand) (most : ℕ) (P : OfRequest) (v : Channels) → 1 ≤ most → Bound most P policy.tries → Holds e most P v → Holds e most P (timed_out policy v)
timed_holds policy e most P v some bound so_far =
    let u : Channels = times_channels policy.tries (map (λ held. held.own) v.held) v in
    features_kept e most P policy.tries u u.features refl some bound (channels_kept e most P policy.tries (map (λ held. held.own) v.held) v some bound so_far)

-- at most as often as the host tries
timed_kept : (policy : Policy) (e : Errand) (most : ℕ) (v : Channels) → 1 ≤ most → policy.tries ≤ most → Kept e most v → Kept e most (timed_out policy v)
timed_kept policy e most v some low so_far =
    (timed_holds policy e most (λ r. r.given ≤ most) v some (record { fresh = λ r none. omega (arith, none); more = λ r few more. let less = leb-false policy.tries r.given more in omega (arith, less, low) }) (so_far, λ r is. let all = so_far r is in omega (arith, all))).0

abbrev IsFiredFrom : (e : Errand) (low : ℕ) → Channels → OfRequest
IsFiredFrom e low v r = (r.given ≤ low) × ((r.given ≡ 0) ⊎ (request_of e v ≡ Some r))

-- A request that waits behind a firing is new or as it was. Where each was given at most so often, and at most one time more with
-- its copies, so it is still.
pub timed-so : (policy : Policy) (e : Errand) (low : ℕ) (v : Channels) → Kept e (1 + low) v → Each e (λ r. r.given ≤ low) v
    → (r : Request) → request_of e (timed_out policy v) ≡ Some r → (copies e (timed_out policy v).queue + r.given ≤ 1 + low) × (r.given ≤ low) × ((r.given ≡ 0) ⊎ (request_of e v ≡ Some r))
timed-so policy e low v so_far few r is = (after.0 r is, (after.1 r is).0, (after.1 r is).1)
  where
    after : Holds e (1 + low) (IsFiredFrom e low v) (timed_out policy v)
    after = timed_holds policy e (1 + low) (IsFiredFrom e low v) v (omega arith) (record { fresh = λ x none. (omega (arith, none), inl none); more = λ x so more. let least = so.0 in omega (arith, least) }) (so_far, λ x at. (few x at, inr at))

-- at most once more often
timed_more : (policy : Policy) (e : Errand) (n : ℕ) (v : Channels) → 1 ≤ n → Kept e n v → Kept e (n + 1) (timed_out policy v)
timed_more policy e n v some so_far r is =
    let all = timed-so policy e n v (λ x at. let least = so_far x at in omega (arith, least)) (λ x at. let least = so_far x at in omega (arith, least)) r is in
    let bound = all.0 in omega (arith, bound)

fires_is : (more : Occurrence) → is_firing more ≡ true → more ≡ Fires
fires_is (Comes pdu) is = cc
fires_is (Connects psm) is = cc
fires_is AsksFeatures is = cc
fires_is (Disconnects own) is = cc
fires_is (Sends own sdu) is = cc
fires_is (Gives pdu) is = cc
fires_is Fires is = refl
fires_is Tells is = cc

one_kept : (policy : Policy) (e : Errand) (most : ℕ) (more : Occurrence) (v : Channels) (firing : Bool) → is_firing more ≡ firing → 1 ≤ most → policy.tries ≤ most → find (has_own v.next) v.held ≡ None → Distinct own_of v.held → Kept e most v → Kept e most (value_after policy more v)
one_kept policy e most more v false is some low none lone so_far = kept-less e most v (value_after policy more v) some (one_lessens policy more v is none lone) so_far
one_kept policy e most more v true is some low none lone so_far = subst (λ o. Kept e most (value_after policy o v)) (sym (fires_is more is)) (timed_kept policy e most v some low so_far)

first_kept : (e : Errand) (most : ℕ) → Kept e most new_link.value
first_kept (errands.Connection own) most r is = cc
first_kept (errands.Configuration own) most r is = cc
first_kept (errands.Disconnection own) most r is = cc
first_kept errands.Features most r is = cc

pub tries-are_kept : TriesAreKept
tries-are_kept policy list most some low errand =
    (along policy (λ run. Kept errand most run.value) (first_kept errand most) (λ run more sound so_far. one_kept policy errand most more run.value (is_firing more) refl some low (sound.core.held_below run.value.next (omega arith)) sound.core.lone so_far) list).1

pub firings-alone_repeat : FiringsAloneRepeat
firings-alone_repeat policy list more other errand request is =
    let run : Run = run_of policy list in
    let sound : IsSound policy run = all-sound policy list in
    one_lessens policy more run.value other (sound.core.held_below run.value.next (omega arith)) sound.core.lone errand request is

-- ---- firings

firings_more : (list : List Occurrence) (more : Occurrence) → firings (list ++ more ∷ []) ≡ one_if (is_firing more) + firings list
firings_more [] more = refl
firings_more (one ∷ list) more = let later = firings_more list more in omega (arith, later)

counted_more : (policy : Policy) (e : Errand) (n : ℕ) (list : List Occurrence) (more : Occurrence) (firing : Bool) → is_firing more ≡ firing → Kept e (1 + n) (run_of policy list).value → Kept e (1 + (one_if firing + n)) (value_after policy more (run_of policy list).value)
counted_more policy e n list more false is so_far = λ r at.
    let sound : IsSound policy (run_of policy list) = all-sound policy list in
    let lessens = one_lessens policy more (run_of policy list).value is (sound.core.held_below (run_of policy list).value.next (omega arith)) sound.core.lone in
    let few = kept-less e (1 + n) (run_of policy list).value (value_after policy more (run_of policy list).value) (omega arith) lessens so_far r at in omega (arith, few)
counted_more policy e n list more true is so_far = subst (λ o. Kept e (1 + (1 + n)) (value_after policy o (run_of policy list).value)) (sym (fires_is more is)) (λ r at. let bound = timed_more policy e (1 + n) (run_of policy list).value (omega arith) so_far r at in omega (arith, bound))

pub firings-are_counted_since : FiringsAreCountedSince
firings-are_counted_since policy past list errand request new = from_end (λ rest. Kept errand (1 + firings rest) (run_of policy (past ++ rest)).value) (subst (λ l. Kept errand 1 (run_of policy l).value) (sym (append-nil past)) new) step list request
  where
    step : (rest : List Occurrence) (more : Occurrence) → Kept errand (1 + firings rest) (run_of policy (past ++ rest)).value → Kept errand (1 + firings (rest ++ more ∷ [])) (run_of policy (past ++ (rest ++ more ∷ []))).value
    step rest more so_far =
        subst (λ n. Kept errand (1 + n) (run_of policy (past ++ (rest ++ more ∷ []))).value) (sym (firings_more rest more))
        (subst (λ l. Kept errand (1 + (one_if (is_firing more) + firings rest)) (run_of policy l).value) (append_assoc past rest (more ∷ []))
        (subst (λ (run : Run). Kept errand (1 + (one_if (is_firing more) + firings rest)) run.value) (sym (fold-append (run_on policy) new_link (past ++ rest) (more ∷ []))) (counted_more policy errand (firings rest) (past ++ rest) more (is_firing more) refl so_far)))

pub firings-are_counted : FiringsAreCounted
firings-are_counted policy list errand request = firings-are_counted_since policy [] list errand request (first_kept errand 1)
