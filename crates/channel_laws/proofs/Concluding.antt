-- A response that is final ends the wait of the request that it is for.
use Rattle.std.proofs.Common.{◌≡◌, ℕ, List, map, Bool, true, false, cond, eqb, not, ◌||◌, Option, Some, None, Result, Ok, Err, refl, sym, ap, subst, ◌∙◌}
use Rattle.std.specs.Prelude.{find, filter, nat_le, is_some}
use Rattle.std.proofs.lemmas.Bool.{eqb-true}
use Rattle.own_channel_laws.specs.talk_laws.specs.l2cap_signal.specs.Commands.{Content, reject, connection_response, configuration_response, disconnection_response, information_response}
use Rattle.own_channel_laws.specs.talk_laws.specs.l2cap_config.specs.declared.options.Options.{Options}
use Rattle.own_channel_laws.specs.talk_laws.specs.l2cap_config.specs.declared.options.ConfigRefusal.{ConfigRefusal}
use Rattle.own_channel_laws.specs.talk_laws.specs.l2cap_config.specs.declared.agreement.Settled.{Settled}
use Rattle.own_channel_laws.specs.talk_laws.specs.l2cap_config.specs.declared.agreement.Settled.TheVariants.{Accepted, Again, Wait, Never}
use Rattle.own_channel_laws.specs.talk_laws.specs.l2cap_config.specs.Reading.{options_read}
use Rattle.own_channel_laws.specs.talk_laws.specs.l2cap_config.specs.Agreement.{settled}
use Rattle.own_channel_laws.specs.channel_model.specs.declared.errand.Errand.{Errand}
use Rattle.own_channel_laws.specs.channel_model.specs.declared.errand.Errand.TheVariants as errands
use Rattle.own_channel_laws.specs.channel_model.specs.declared.event.ChannelEvent.TheVariants.{Features}
use Rattle.own_channel_laws.specs.channel_model.specs.declared.event.CloseReason.{CloseReason}
use Rattle.own_channel_laws.specs.channel_model.specs.declared.event.CloseReason.TheVariants.{NoAgreement, Refused, OwnClosed}
use Rattle.own_channel_laws.specs.channel_model.specs.Value.{Request, Own, Unasked, Asking, Granted, Setup, no_setup, Stage, Requested, Connected, Leaving, Closing, Crossed, Held, Channels}
use Rattle.own_channel_laws.specs.channel_model.specs.Policies.{Policy}
use Rattle.own_channel_laws.specs.channel_model.specs.Changing.{has_own, held_at, in_place_of, is_peer, is_leaving, setup_of, stage_with, with_setup, to_setup, has_fcs_by, forgets, tells}
use Rattle.own_channel_laws.specs.channel_model.specs.Asking.{new_request, first_options, asks_options}
use Rattle.own_channel_laws.specs.channel_model.specs.Closing.{closes, closes_at, ends_at, ends}
use Rattle.own_channel_laws.specs.channel_model.specs.Configuring.{granted_setup, grants, opens_if}
use Rattle.own_channel_laws.specs.channel_model.specs.Hearing.{hears_content}
use Rattle.own_channel_laws.specs.channel_model.specs.Responses.{is_fresh_endpoint, connects, hears_connected, hears_grant_at, hears_grant, renewed_setup, hears_settled, hears_options, is_asked, hears_response_on, hears_response, hears_end, has_identifier, hears_features, features_in}
use Rattle.own_channel_laws.specs.channel_model.proofs.Lookups.{own_of, eqb-same, found-has, found-placed, find-gone}
use Rattle.own_channel_laws.specs.channel_model.proofs.Going.{staged}
use Rattle.own_channel_laws.specs.channel_model.proofs.Walking.{found-own, with-found}
use Rattle.channel_laws.specs.Adverse.{responds_with}
use Rattle.channel_laws.specs.Final.{IsDecided, IsDecidedBy, OnHeld, IsFinal, FinalResponsesEndWaits}
use Rattle.channel_laws.specs.Heeded.{WaitsNoMore}
use Rattle.own_channel_laws.specs.Tries.{for_channel, own_request, for_options, for_end, request_at, request_of}
use Rattle.own_channel_laws.proofs.Both.{and-left, and-right}

-- ---- nothing waits

pub none_waits : (e : Errand) (identifier : ℕ) (v : Channels) → request_of e v ≡ None → WaitsNoMore e identifier v
none_waits e identifier v none r is = let never : None ≡ Some r = sym none ∙ is in absurd cc

-- the channel goes on to a stage
pub placed_at : (f : Stage → Option Request) (v w : Channels) (held : Held) (stage : Stage) → find (has_own held.own) v.held ≡ Some held → w.held ≡ map (in_place_of (staged held stage)) v.held → request_at f (find (has_own held.own) w.held) ≡ f stage
placed_at f v w held stage found is = ap (request_at f) (ap (find (has_own held.own)) is ∙ found-placed (staged held stage) held v.held found)

-- or is no more
pub gone_at : (f : Stage → Option Request) (v w : Channels) (held : Held) → w.held ≡ filter (λ other. not (eqb other.own held.own)) v.held → request_at f (find (has_own held.own) w.held) ≡ None
gone_at f v w held is = ap (request_at f) (ap (find (has_own held.own)) is ∙ find-gone own_of held.own v.held)

-- ---- a channel is closed

-- no request for it waits any more, nor one for its options
pub closed_none : (v : Channels) (held : Held) (reason : CloseReason) (stage : Stage) → held.stage ≡ stage → find (has_own held.own) v.held ≡ Some held
    → (request_at for_channel (find (has_own held.own) (closes_at stage reason held v).held) ≡ None) × (request_at for_options (find (has_own held.own) (closes_at stage reason held v).held) ≡ None)
closed_none v held reason (Requested request) is found = (gone_at for_channel v (closes_at (Requested request) reason held v) held refl, gone_at for_options v (closes_at (Requested request) reason held v) held refl)
closed_none v held reason (Connected peer setup) is found =
    let w : Channels = closes_at (Connected peer setup) reason held v in
    let stage : Stage = Closing peer (new_request v) (has_fcs_by setup) in
    (placed_at for_channel v w held stage found refl, placed_at for_options v w held stage found refl)
closed_none v held reason (Leaving peer setup request) is found =
    let w : Channels = closes_at (Leaving peer setup request) reason held v in
    let stage : Stage = Closing peer request (has_fcs_by setup) in
    (placed_at for_channel v w held stage found refl, placed_at for_options v w held stage found refl)
closed_none v held reason (Closing peer request checked) is found = (ap (request_at for_channel) found ∙ ap for_channel is, ap (request_at for_options) found ∙ ap for_options is)
closed_none v held reason (Crossed peer request) is found = (ap (request_at for_channel) found ∙ ap for_channel is, ap (request_at for_options) found ∙ ap for_options is)

-- ---- a channel that was asked for

pub same_request : (r request : Request) → Some request ≡ Some r → request ≡ r
same_request r request is = cc

pub granted_none : (policy : Policy) (destination answer : ℕ) (held : Held) (v : Channels) → find (has_own held.own) v.held ≡ Some held → eqb answer 1 ≡ false → (eqb answer 0 ≡ true → is_fresh_endpoint destination v ≡ true) → (request : Request) → held.stage ≡ Requested request
    → request_at for_channel (find (has_own held.own) (hears_connected policy destination answer held v).held) ≡ None
granted_none policy destination answer held v found one fresh request stage_is = by (eqb answer 0) refl
  where
    made : Channels
    made = connects (policy.wish held.psm) destination held v

    refused : Channels
    refused = closes (Refused answer) held v

    by : (zero : Bool) → eqb answer 0 ≡ zero → request_at for_channel (find (has_own held.own) (cond zero (cond (is_fresh_endpoint destination v) made v) (cond (eqb answer 1) v refused)).held) ≡ None
    by true zero = ap (λ b. request_at for_channel (find (has_own held.own) (cond b made v).held)) (fresh zero)
        ∙ placed_at for_channel v made held (Connected destination (record no_setup { own = Asking (new_request v) (first_options (policy.wish held.psm)) })) found refl
    by false zero = ap (λ b. request_at for_channel (find (has_own held.own) (cond b v refused).held)) one ∙ (closed_none v held (Refused answer) held.stage refl found).0

pub grant_ends : (policy : Policy) (identifier destination answer : ℕ) (own : ℕ) (r : Request) (v : Channels) → request_of (errands.Connection own) v ≡ Some r → r.identifier ≡ identifier → eqb answer 1 ≡ false → (eqb answer 0 ≡ true → is_fresh_endpoint destination v ≡ true)
    → request_of (errands.Connection own) (hears_grant (held_at own v) policy identifier destination answer v) ≡ None
grant_ends policy identifier destination answer own r v is same one fresh = by (held_at own v) refl is
  where
    at : (held : Held) (stage : Stage) → find (has_own held.own) v.held ≡ Some held → held.stage ≡ stage → for_channel stage ≡ Some r
        → request_at for_channel (find (has_own held.own) (hears_grant_at stage policy identifier destination answer held v).held) ≡ None
    at held (Requested request) found stage_is waits =
        let it : request ≡ r = same_request r request waits in
        let known : eqb request.identifier identifier ≡ true = ap (λ (x : Request). eqb x.identifier identifier) it ∙ (ap (λ n. eqb n identifier) same ∙ eqb-same identifier) in
        ap (λ b. request_at for_channel (find (has_own held.own) (cond b (hears_connected policy destination answer held v) v).held)) known ∙ granted_none policy destination answer held v found one fresh request stage_is
    at held (Connected peer setup) found stage_is waits = cc
    at held (Leaving peer setup request) found stage_is waits = cc
    at held (Closing peer request checked) found stage_is waits = cc
    at held (Crossed peer request) found stage_is waits = cc

    by : (held : Option Held) → find (has_own own) v.held ≡ held → request_at for_channel held ≡ Some r → request_at for_channel (find (has_own own) (hears_grant held policy identifier destination answer v).held) ≡ None
    by None found waits = cc
    by (Some held) found waits =
        subst (λ n. request_at for_channel (find (has_own n) (hears_grant_at held.stage policy identifier destination answer held v).held) ≡ None) (found-has own_of own v.held held found)
        (at held held.stage (found-own own v held found) refl waits)

-- ---- the end of a channel

pub ended_none : (v : Channels) (held : Held) (reason : CloseReason) (stage : Stage) (r : Request) → for_end stage ≡ Some r → request_at for_end (find (has_own held.own) (ends_at stage reason held v).held) ≡ None
ended_none v held reason (Requested request) r is = cc
ended_none v held reason (Connected peer setup) r is = cc
ended_none v held reason (Leaving peer setup request) r is = gone_at for_end v (ends_at (Leaving peer setup request) reason held v) held refl
ended_none v held reason (Closing peer request checked) r is = gone_at for_end v (ends_at (Closing peer request checked) reason held v) held refl
ended_none v held reason (Crossed peer request) r is = gone_at for_end v (ends_at (Crossed peer request) reason held v) held refl

pub end_ends : (own destination : ℕ) (r : Request) (v : Channels) → request_of (errands.Disconnection own) v ≡ Some r → OnHeld (λ held. is_peer destination held.stage ≡ true) (held_at own v)
    → request_of (errands.Disconnection own) (hears_end (held_at own v) destination v) ≡ None
end_ends own destination r v is final = by (held_at own v) refl is final
  where
    by : (held : Option Held) → find (has_own own) v.held ≡ held → request_at for_end held ≡ Some r → OnHeld (λ h. is_peer destination h.stage ≡ true) held → request_at for_end (find (has_own own) (hears_end held destination v).held) ≡ None
    by None found waits final = cc
    by (Some held) found waits final =
        subst (λ n. request_at for_end (find (has_own n) (hears_end (Some held) destination v).held) ≡ None) (found-has own_of own v.held held found)
        (ap (λ b. request_at for_end (find (has_own held.own) (cond b (ends OwnClosed held v) v).held)) final ∙ ended_none v held OwnClosed held.stage r waits)

-- ---- the options of a channel

pub options_with : (after : Setup) (stage : Stage) (setup : Setup) → setup_of stage ≡ Some setup → for_options (stage_with after stage) ≡ own_request after.own
options_with after (Requested request) setup is = cc
options_with after (Connected peer before) setup is = refl
options_with after (Leaving peer before request) setup is = refl
options_with after (Closing peer request checked) setup is = cc
options_with after (Crossed peer request) setup is = cc

pub settled_ends : (now : Settled) (identifier : ℕ) (v : Channels) (held : Held) (setup : Setup) → find (has_own held.own) v.held ≡ Some held → setup_of held.stage ≡ Some setup → IsDecided now identifier v.identifier
    → WaitsNoMore (errands.Configuration held.own) identifier (hears_settled now held setup v)
settled_ends Accepted identifier v held setup found is decided = none_waits (errands.Configuration held.own) identifier (grants held setup v) (by (is_some setup.carrier))
  where
    u : Channels
    u = to_setup held (granted_setup setup) (forgets (errands.Configuration held.own) v)

    none : request_at for_options (find (has_own held.own) u.held) ≡ None
    none = placed_at for_options v u held (stage_with (granted_setup setup) held.stage) found refl ∙ options_with (granted_setup setup) held.stage setup is

    by : (b : Bool) → request_at for_options (find (has_own held.own) (opens_if b held u).held) ≡ None
    by true = none
    by false = none
settled_ends (Again options) identifier v held setup found is decided = by (is_leaving held.stage || nat_le 3 after.renewed)
  where
    after : Setup
    after = renewed_setup setup

    asked : Setup
    asked = record after { own = Asking (new_request v) options }

    closed : Channels
    closed = closes NoAgreement (with_setup held after) (to_setup held after v)

    again : Channels
    again = asks_options held after options v

    new_is : request_at for_options (find (has_own held.own) again.held) ≡ Some (new_request v)
    new_is = placed_at for_options v again held (stage_with asked held.stage) found refl ∙ options_with asked held.stage setup is

    by : (b : Bool) → WaitsNoMore (errands.Configuration held.own) identifier (cond b closed again)
    by true = none_waits (errands.Configuration held.own) identifier closed (closed_none (to_setup held after v) (with_setup held after) NoAgreement (with_setup held after).stage refl (with-found v held after found)).1
    by false = λ r waits.
        let it : new_request v ≡ r = same_request r (new_request v) (sym new_is ∙ waits) in
        subst (λ (x : Request). eqb x.identifier identifier ≡ false) it decided
settled_ends Wait identifier v held setup found is decided = absurd decided
settled_ends Never identifier v held setup found is decided = none_waits (errands.Configuration held.own) identifier (closes NoAgreement held v) (closed_none v held NoAgreement held.stage refl found).1

pub options_end : (given : Result Options ConfigRefusal) (policy : Policy) (answer identifier : ℕ) (v : Channels) (held : Held) (setup : Setup) → find (has_own held.own) v.held ≡ Some held → setup_of held.stage ≡ Some setup → IsDecidedBy given policy answer identifier v.identifier held
    → WaitsNoMore (errands.Configuration held.own) identifier (hears_options given policy answer held setup v)
options_end (Ok options) policy answer identifier v held setup found is decided = settled_ends (settled (policy.wish held.psm) answer options) identifier v held setup found is decided
options_end (Err refusal) policy answer identifier v held setup found is decided = absurd decided

pub own_asked : (own : Own) (r : Request) (identifier : ℕ) → own_request own ≡ Some r → r.identifier ≡ identifier → is_asked identifier own ≡ true
own_asked Unasked r identifier is same = cc
own_asked (Asking request options) r identifier is same =
    let it : request ≡ r = same_request r request is in ap (λ (x : Request). eqb x.identifier identifier) it ∙ (ap (λ n. eqb n identifier) same ∙ eqb-same identifier)
own_asked Granted r identifier is same = cc

pub stage_asked : (stage : Stage) (r : Request) → for_options stage ≡ Some r → (setup : Setup) × (setup_of stage ≡ Some setup) × (own_request setup.own ≡ Some r)
stage_asked (Requested request) r is = cc
stage_asked (Connected peer setup) r is = (setup, refl, is)
stage_asked (Leaving peer setup request) r is = (setup, refl, is)
stage_asked (Closing peer request checked) r is = cc
stage_asked (Crossed peer request) r is = cc

pub response_ends : (policy : Policy) (own answer identifier : ℕ) (octets : List ℕ) (r : Request) (v : Channels) → request_of (errands.Configuration own) v ≡ Some r → r.identifier ≡ identifier
    → OnHeld (IsDecidedBy (options_read octets) policy answer identifier v.identifier) (held_at own v) → WaitsNoMore (errands.Configuration own) identifier (hears_response (held_at own v) policy identifier answer octets v)
response_ends policy own answer identifier octets r v is same final = by (held_at own v) refl is final
  where
    by : (held : Option Held) → find (has_own own) v.held ≡ held → request_at for_options held ≡ Some r → OnHeld (IsDecidedBy (options_read octets) policy answer identifier v.identifier) held
        → WaitsNoMore (errands.Configuration own) identifier (hears_response held policy identifier answer octets v)
    by None found waits final = cc
    by (Some held) found waits final =
        let (setup, setup_is, asks) = stage_asked held.stage r waits in
        let known : is_asked identifier setup.own ≡ true = own_asked setup.own r identifier asks same in
        subst (λ n. WaitsNoMore (errands.Configuration n) identifier (hears_response (Some held) policy identifier answer octets v)) (found-has own_of own v.held held found)
        (subst (λ s. WaitsNoMore (errands.Configuration held.own) identifier (hears_response_on s policy identifier answer octets held v)) (sym setup_is)
        (subst (λ b. WaitsNoMore (errands.Configuration held.own) identifier (cond b (hears_options (options_read octets) policy answer held setup v) v)) (sym known)
        (options_end (options_read octets) policy answer identifier v held setup (found-own own v held found) setup_is final)))

-- ---- the features

pub features_end : (identifier : ℕ) (given : Option ℕ) (r : Request) (v : Channels) → v.features ≡ Some r → r.identifier ≡ identifier → (hears_features identifier given v).features ≡ None
features_end identifier given r v is same =
    let known : has_identifier identifier v.features ≡ true = ap (has_identifier identifier) is ∙ (ap (λ n. eqb n identifier) same ∙ eqb-same identifier) in
    let w : Channels = tells (Features given) (forgets errands.Features (record v { features = None })) in
    ap (λ b. (cond b w v).features) known

-- ---- any of them

pub content_ends : (policy : Policy) (e : Errand) (identifier : ℕ) (content : Content) (r : Request) (v : Channels) → request_of e v ≡ Some r → r.identifier ≡ identifier → responds_with e content ≡ true → IsFinal policy identifier content v
    → WaitsNoMore e identifier (hears_content policy identifier content v)
content_ends policy (errands.Connection own) identifier (connection_response destination source answer status) r v is same so (one, fresh) =
    let it : source ≡ own = eqb-true source own so in
    none_waits (errands.Connection own) identifier (hears_content policy identifier (connection_response destination source answer status) v)
    (subst (λ n. request_of (errands.Connection own) (hears_grant (held_at n v) policy identifier destination answer v) ≡ None) (sym it) (grant_ends policy identifier destination answer own r v is same one fresh))
content_ends policy (errands.Configuration own) identifier (configuration_response source flags answer options) r v is same so final =
    let it : source ≡ own = eqb-true source own so in
    subst (λ n. WaitsNoMore (errands.Configuration own) identifier (hears_response (held_at n v) policy identifier answer options v)) (sym it)
    (response_ends policy own answer identifier options r v is same (subst (λ n. OnHeld (IsDecidedBy (options_read options) policy answer identifier v.identifier) (held_at n v)) it final))
content_ends policy (errands.Disconnection own) identifier (disconnection_response destination source) r v is same so final =
    let it : source ≡ own = eqb-true source own so in
    none_waits (errands.Disconnection own) identifier (hears_content policy identifier (disconnection_response destination source) v)
    (subst (λ n. request_of (errands.Disconnection own) (hears_end (held_at n v) destination v) ≡ None) (sym it) (end_ends own destination r v is (subst (λ n. OnHeld (λ held. is_peer destination held.stage ≡ true) (held_at n v)) it final)))
content_ends policy errands.Features identifier (information_response kind answer rest) r v is same so final =
    none_waits errands.Features identifier (hears_content policy identifier (information_response kind answer rest) v) (features_end identifier (features_in kind answer rest) r v is same)
content_ends policy errands.Features identifier (reject reason rest) r v is same so final = none_waits errands.Features identifier (hears_content policy identifier (reject reason rest) v) (features_end identifier None r v is same)
content_ends policy e identifier content r v is same so final = cc

pub final-responses_end_waits : FinalResponsesEndWaits
final-responses_end_waits policy v errand request command is responds final =
    let same : command.identifier ≡ request.identifier = eqb-true command.identifier request.identifier (and-left (eqb command.identifier request.identifier) (responds_with errand command.content) responds) in
    let so : responds_with errand command.content ≡ true = and-right (eqb command.identifier request.identifier) (responds_with errand command.content) responds in
    subst (λ n. WaitsNoMore errand n (hears_content policy command.identifier command.content v)) same
    (content_ends policy errand command.identifier command.content request v is (sym same) so (subst (λ n. IsFinal policy n command.content v) (sym same) final))
