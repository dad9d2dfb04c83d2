-- How a request for options comes to wait.
use Rattle.std.proofs.Common.{◌≡◌, ℕ, List, [], ◌∷◌, drop, map, Bool, true, false, cond, eqb, ◌||◌, Option, Some, None, Result, Ok, Err, refl, sym, ap, subst, ◌∙◌, ◌⊎◌, inl, inr}
use Rattle.std.specs.Prelude.{find, is_some, nat_le}
use Rattle.std.specs.Option.{option_or}
use Rattle.std.proofs.lemmas.Bool.{eqb-true}
use Rattle.channel_laws.specs.acl_fragments.specs.Pieces.{channel_of}
use Rattle.channel_laws.specs.l2cap_signal.specs.Commands.{Content, Command, reject, connection_request, connection_response, configuration_request, configuration_response, disconnection_request, disconnection_response, echo_request, echo_response, information_request, information_response}
use Rattle.channel_laws.specs.l2cap_signal.specs.Reading.{answers}
use Rattle.channel_laws.specs.l2cap_config.specs.declared.agreement.ConfigAnswer.{ConfigAnswer}
use Rattle.channel_laws.specs.l2cap_config.specs.declared.agreement.ConfigAnswer.TheVariants.{Accept, Unacceptable, Unknown}
use Rattle.channel_laws.specs.l2cap_config.specs.declared.agreement.Settled.{Settled}
use Rattle.channel_laws.specs.l2cap_config.specs.declared.agreement.Settled.TheVariants as settles
use Rattle.channel_laws.specs.l2cap_config.specs.declared.options.ConfigRefusal.{ConfigRefusal}
use Rattle.channel_laws.specs.l2cap_config.specs.declared.options.Options.{Options}
use Rattle.channel_laws.specs.l2cap_config.specs.declared.wish.Wish.{Wish}
use Rattle.channel_laws.specs.l2cap_config.specs.Agreement.{settled}
use Rattle.channel_laws.specs.l2cap_config.specs.Reading.{options_read}
use Rattle.channel_laws.specs.ertm_model.specs.Value.{Ertm}
use Rattle.channel_laws.specs.channel_model.specs.declared.errand.Errand.TheVariants as errands
use Rattle.channel_laws.specs.channel_model.specs.declared.event.CloseReason.TheVariants.{Refused, NoAgreement}
use Rattle.channel_laws.specs.channel_model.specs.declared.request_kind.RequestKind.{RequestKind}
use Rattle.channel_laws.specs.channel_model.specs.declared.request_kind.RequestKind.TheVariants as kinds
use Rattle.channel_laws.specs.channel_model.specs.Answers.{connection_result, answer_to}
use Rattle.channel_laws.specs.channel_model.specs.Asking.{next_identifier, new_request, first_options, asks_options, StillDue, OnceMore, Spent}
use Rattle.channel_laws.specs.channel_model.specs.Calls.{connected, asks_features, disconnected, sends}
use Rattle.channel_laws.specs.channel_model.specs.Carrying.{settles_machine, machine_heard, read_by, carries, is_taken_with, shows, opens_with, takes_with, takes_on, takes_held, takes}
use Rattle.channel_laws.specs.channel_model.specs.Changing.{has_own, held_at, in_place_of, setup_of, stage_with, with_setup, to_setup, is_leaving, is_due, forgets}
use Rattle.channel_laws.specs.channel_model.specs.Closing.{closes}
use Rattle.channel_laws.specs.channel_model.specs.Configuring.{Verdict, NoChannel, TooLate, Unreadable, Incomplete, Judged, verdict, accepted_setup, without_parts, refused_setup, accepts_with, follows_answer, follows_verdict, opens_if, granted_setup, grants}
use Rattle.channel_laws.specs.channel_model.specs.Following.{with_channel, follows, follows_setup, follows_configuration, remembers, says, can_say, hears_new, hears_again, hears_kind}
use Rattle.channel_laws.specs.channel_model.specs.Giving.{after_given}
use Rattle.channel_laws.specs.channel_model.specs.Hearing.{hears_content, hears_commands}
use Rattle.channel_laws.specs.channel_model.specs.Policies.{Policy}
use Rattle.channel_laws.specs.channel_model.specs.Responses.{is_fresh_endpoint, connects, hears_connected, hears_grant_at, hears_grant, renews, renewed_setup, hears_settled, hears_options, is_asked, hears_response_on, hears_response, hears_end, hears_features, features_in}
use Rattle.channel_laws.specs.channel_model.specs.Timing.{fires, loses_features, times_held, times_end, times_channels, times_features, timed_out}
use Rattle.channel_laws.specs.channel_model.specs.Value.{Request, Own, Unasked, Asking, Granted, Carrier, Plain, Retransmitting, Setup, no_setup, Stage, Requested, Connected, Leaving, Closing, Crossed, Held, Remembered, Channels}
use Rattle.channel_laws.specs.channel_model.proofs.Calling.{granted-same}
use Rattle.channel_laws.specs.channel_model.proofs.Going.{staged, new_held}
use Rattle.channel_laws.specs.channel_model.proofs.Lookups.{own_of, Distinct, find-append, found-placed, find-placed}
use Rattle.channel_laws.specs.channel_model.proofs.Walking.{found-own, with-found, with-setup}
use Rattle.channel_laws.specs.Runs.{Occurrence, Comes, Connects, AsksFeatures, Disconnects, Sends, Gives, Fires, Tells, value_after}
use Rattle.channel_laws.specs.Tries.{own_request}
use Rattle.channel_laws.proofs.Lasting.{asked_by}
use Rattle.channel_laws.proofs.Answered.{setup-asks, features_rest}
use Rattle.channel_laws.proofs.Demanding.{asked_at, asked_on, Rests, both-rest, same-rests, closes-rests, disconnection-rests, end-rests, disconnects-rests, setup-rests, sends-rest, settles-rests, times-rest, ends-rest, gives-rest, connects-rest, asks-rest}

-- each that waits has waited
abbrev pub Less : Channels → Channels → Type 0
Less v w = (own n : ℕ) → asked_on (held_at own w) ≡ Some (Some n) → asked_on (held_at own v) ≡ Some (Some n)

-- why there is a new one: the options of the peer are accepted, the channel that the host asked for is there, or the peer suggested other options
pub data Cause (own : ℕ) (v w : Channels) : Type 0 where
  Accepts : (held : Held) (setup : Setup) → held_at own w ≡ Some held → setup_of held.stage ≡ Some setup → is_some setup.carrier ≡ true → Cause own v w
  Makes : (held : Held) (request : Request) → held_at own v ≡ Some held → held.stage ≡ Requested request → Cause own v w
  Renews : (n : ℕ) → asked_on (held_at own v) ≡ Some (Some n) → Cause own v w

-- there is one new one, with the next identifier
pub record New (v w : Channels) (asked : ℕ) : Type 0 where
  pub next : w.identifier ≡ next_identifier v.identifier
  pub others : (own n : ℕ) → asked_on (held_at own w) ≡ Some (Some n) → (asked_on (held_at own v) ≡ Some (Some n)) ⊎ ((own ≡ asked) × (n ≡ v.identifier))
  pub cause : Cause asked v w

abbrev pub Goes : Channels → Channels → Type 0
Goes v w = Less v w ⊎ ((asked : ℕ) × New v w asked)

rests_less : (v w : Channels) → Rests v w → Less v w
rests_less v w rests own n is = by (rests own)
  where
    by : (asked_on (held_at own w) ≡ None) ⊎ (asked_on (held_at own w) ≡ asked_on (held_at own v)) → asked_on (held_at own v) ≡ Some (Some n)
    by (inl none) = let never : None ≡ Some (Some n) = sym none ∙ is in absurd cc
    by (inr same) = sym same ∙ is

less_both : (v u w : Channels) → Less v u → Less u w → Less v w
less_both v u w first second own n is = first own n (second own n is)

same_goes : (v : Channels) → Goes v v
same_goes v = inl (λ own n is. is)

either : (b : Bool) (v x y : Channels) → Goes v x → Goes v y → Goes v (cond b x y)
either true v x y one other = one
either false v x y one other = other

-- what is known of the channels and of the identifier is all that counts
alike_goes : (v u w : Channels) → u.held ≡ v.held → u.identifier ≡ v.identifier → Goes u w → Goes v w
alike_goes v u w held_is identifier_is = by
  where
    same : (own : ℕ) → asked_on (held_at own v) ≡ asked_on (held_at own u)
    same own = ap (λ hs. asked_on (find (has_own own) hs)) (sym held_is)

    caused : (asked : ℕ) → Cause asked u w → Cause asked v w
    caused asked (Accepts held setup found has carries) = Accepts held setup found has carries
    caused asked (Makes held request found is) = Makes held request (ap (find (has_own asked)) (sym held_is) ∙ found) is
    caused asked (Renews n waits) = Renews n (same asked ∙ waits)

    turned : (asked own n : ℕ) → (asked_on (held_at own u) ≡ Some (Some n)) ⊎ ((own ≡ asked) × (n ≡ u.identifier)) → (asked_on (held_at own v) ≡ Some (Some n)) ⊎ ((own ≡ asked) × (n ≡ v.identifier))
    turned asked own n (inl was) = inl (same own ∙ was)
    turned asked own n (inr (it, now)) = inr (it, now ∙ identifier_is)

    by : Goes u w → Goes v w
    by (inl less) = inl (λ own n is. same own ∙ less own n is)
    by (inr (asked, new)) = inr (asked, record { next = new.next ∙ ap next_identifier identifier_is; others = λ own n is. turned asked own n (new.others own n is); cause = caused asked new.cause })

-- ---- one channel

placed_less : (v w : Channels) (held : Held) (stage : Stage) → find (has_own held.own) v.held ≡ Some held → w.held ≡ map (in_place_of (staged held stage)) v.held → ((n : ℕ) → asked_at stage ≡ Some (Some n) → asked_at held.stage ≡ Some (Some n)) → Less v w
placed_less v w held stage found held_is here own n is = by (eqb held.own own) refl
  where
    by : (same : Bool) → eqb held.own own ≡ same → asked_on (held_at own v) ≡ Some (Some n)
    by true now =
        let same : held.own ≡ own = eqb-true held.own own now in
        let w_is : find (has_own held.own) w.held ≡ Some (staged held stage) = ap (find (has_own held.own)) held_is ∙ found-placed (staged held stage) held v.held found in
        subst (λ m. asked_on (held_at m v) ≡ Some (Some n)) same (ap asked_on found ∙ here n (sym (ap asked_on w_is) ∙ (ap (λ m. asked_on (held_at m w)) same ∙ is)))
    by false now = sym (ap asked_on (ap (find (has_own own)) held_is ∙ find-placed (staged held stage) v.held own now)) ∙ is

new_goes : (v w : Channels) (held : Held) (stage : Stage) → find (has_own held.own) v.held ≡ Some held → w.held ≡ map (in_place_of (staged held stage)) v.held → w.identifier ≡ next_identifier v.identifier → asked_at stage ≡ Some (Some v.identifier) → Cause held.own v w → Goes v w
new_goes v w held stage found held_is next asks cause = inr (held.own, record { next = next; others = others; cause = cause })
  where
    others : (own n : ℕ) → asked_on (held_at own w) ≡ Some (Some n) → (asked_on (held_at own v) ≡ Some (Some n)) ⊎ ((own ≡ held.own) × (n ≡ v.identifier))
    others own n is = by (eqb held.own own) refl
      where
        by : (same : Bool) → eqb held.own own ≡ same → (asked_on (held_at own v) ≡ Some (Some n)) ⊎ ((own ≡ held.own) × (n ≡ v.identifier))
        by true now =
            let same : held.own ≡ own = eqb-true held.own own now in
            let w_is : find (has_own held.own) w.held ≡ Some (staged held stage) = ap (find (has_own held.own)) held_is ∙ found-placed (staged held stage) held v.held found in
            let both : Some (Some v.identifier) ≡ Some (Some n) = sym asks ∙ (sym (ap asked_on w_is) ∙ (ap (λ m. asked_on (held_at m w)) same ∙ is)) in
            let named : n ≡ v.identifier = cc in
            inr (sym same, named)
        by false now = inl (sym (ap asked_on (ap (find (has_own own)) held_is ∙ find-placed (staged held stage) v.held own now)) ∙ is)

asked_goes : (v : Channels) (held : Held) (setup after : Setup) (options : Options) → find (has_own held.own) v.held ≡ Some held → setup_of held.stage ≡ Some setup → Cause held.own v (asks_options held after options v) → Goes v (asks_options held after options v)
asked_goes v held setup after options found is cause =
    let asked : Setup = record after { own = Asking (new_request v) options } in
    new_goes v (asks_options held after options v) held (stage_with asked held.stage) found refl refl (setup-asks (stage_with asked held.stage) asked (with-setup held.stage setup asked is)) cause

third_less : (v : Channels) (held : Held) (setup after : Setup) → after.own ≡ setup.own → find (has_own held.own) v.held ≡ Some held → setup_of held.stage ≡ Some setup → Less v (closes NoAgreement (with_setup held after) (to_setup held after v))
third_less v held setup after same found is =
    let u : Channels = to_setup held after v in
    let w : Channels = closes NoAgreement (with_setup held after) u in
    rests_less v w (both-rest v u w (setup-rests v u held setup after found is same refl) (closes-rests u (with_setup held after) NoAgreement (with-found v held after found)))

-- ---- a request of the peer for options

accepts_go : (v : Channels) (own : Own) (wish : Wish) (held : Held) (setup after : Setup) → after.own ≡ setup.own → is_some after.carrier ≡ true → find (has_own held.own) v.held ≡ Some held → setup_of held.stage ≡ Some setup → Goes v (accepts_with own wish held after v)
accepts_go v Unasked wish held setup after same carries found is =
    let asked : Setup = record after { own = Asking (new_request v) (first_options wish) } in
    asked_goes v held setup after (first_options wish) found is (Accepts (with_setup held asked) asked (with-found v held asked found) (with-setup held.stage setup asked is) carries)
accepts_go v (Asking request options) wish held setup after same carries found is = inl (rests_less v (to_setup held after v) (setup-rests v (to_setup held after v) held setup after found is same refl))
accepts_go v Granted wish held setup after same carries found is = inl (rests_less v (accepts_with Granted wish held after v) (setup-rests v (accepts_with Granted wish held after v) held setup after found is same refl))

set_goes : (v : Channels) (held : Held) (setup after : Setup) → after.own ≡ setup.own → find (has_own held.own) v.held ≡ Some held → setup_of held.stage ≡ Some setup → Goes v (to_setup held after v)
set_goes v held setup after same found is = inl (rests_less v (to_setup held after v) (setup-rests v (to_setup held after v) held setup after found is same refl))

answer_goes : (v : Channels) (answer : ConfigAnswer) (wish : Wish) (options : Options) (held : Held) (setup : Setup) → find (has_own held.own) v.held ≡ Some held → setup_of held.stage ≡ Some setup → Goes v (follows_answer answer wish options held setup v)
answer_goes v (Accept given) wish options held setup found is = accepts_go v setup.own wish held setup (accepted_setup wish options setup) refl refl found is
answer_goes v (Unacceptable refusal given) wish options held setup found is =
    let after : Setup = refused_setup setup in
    either (nat_le 3 after.refused) v (closes NoAgreement (with_setup held after) (to_setup held after v)) (to_setup held after v) (inl (third_less v held setup after refl found is)) (set_goes v held setup after refl found is)
answer_goes v Unknown wish options held setup found is = set_goes v held setup (without_parts setup) refl found is

verdict_goes : (v : Channels) (now : Verdict) (wish : Wish) (held : Held) (setup : Setup) → find (has_own held.own) v.held ≡ Some held → setup_of held.stage ≡ Some setup → Goes v (follows_verdict now wish held setup v)
verdict_goes v NoChannel wish held setup found is = same_goes v
verdict_goes v (TooLate peer) wish held setup found is = same_goes v
verdict_goes v (Unreadable peer) wish held setup found is = set_goes v held setup (without_parts setup) refl found is
verdict_goes v (Incomplete peer options) wish held setup found is = set_goes v held setup (record setup { parts = options }) refl found is
verdict_goes v (Judged peer options answer) wish held setup found is = answer_goes v answer wish options held setup found is

setup_goes : (v : Channels) (setup : Option Setup) (policy : Policy) (held : Held) (flags : ℕ) (octets : List ℕ) → find (has_own held.own) v.held ≡ Some held → setup_of held.stage ≡ setup → Goes v (follows_setup setup policy held flags octets v)
setup_goes v None policy held flags octets found is = same_goes v
setup_goes v (Some setup) policy held flags octets found is = verdict_goes v (verdict policy held.own flags octets v) (policy.wish held.psm) held setup found is

configuration_goes : (v : Channels) (own : ℕ) (held : Option Held) (policy : Policy) (flags : ℕ) (octets : List ℕ) → find (has_own own) v.held ≡ held → Goes v (follows_configuration held policy flags octets v)
configuration_goes v own None policy flags octets is = same_goes v
configuration_goes v own (Some held) policy flags octets is = setup_goes v (setup_of held.stage) policy held flags octets (found-own own v held is) refl

-- a channel that is there at once
born_less : (v : Channels) (psm source : ℕ) → Less v (with_channel psm (Connected source no_setup) v)
born_less v psm source own n is = by (find (has_own own) v.held) (eqb v.next own) (sym (ap asked_on (find-append own_of own v.held new)) ∙ is)
  where
    new : Held
    new = new_held psm v.next (Connected source no_setup)

    by : (found : Option Held) (b : Bool) → asked_on (option_or found (cond b (Some new) None)) ≡ Some (Some n) → asked_on found ≡ Some (Some n)
    by None true waits = cc
    by None false waits = cc
    by (Some held) b waits = waits

follows_goes : (policy : Policy) (content : Content) (v : Channels) → Goes v (follows policy content v)
follows_goes policy (reject reason rest) v = same_goes v
follows_goes policy (connection_request psm source) v = either (eqb (connection_result policy psm source v) 0) v (with_channel psm (Connected source no_setup) v) v (inl (born_less v psm source)) (same_goes v)
follows_goes policy (connection_response destination source answer status) v = same_goes v
follows_goes policy (configuration_request destination flags options) v = configuration_goes v destination (held_at destination v) policy flags options refl
follows_goes policy (configuration_response source flags answer options) v = same_goes v
follows_goes policy (disconnection_request destination source) v = inl (rests_less v (follows policy (disconnection_request destination source) v) (disconnection-rests v destination source (held_at destination v) refl))
follows_goes policy (disconnection_response destination source) v = same_goes v
follows_goes policy (echo_request octets) v = same_goes v
follows_goes policy (echo_response octets) v = same_goes v
follows_goes policy (information_request kind) v = same_goes v
follows_goes policy (information_response kind answer rest) v = same_goes v

says_held : (identifier : ℕ) (response : Option Content) (v : Channels) → ((says identifier response v).held ≡ v.held) × ((says identifier response v).identifier ≡ v.identifier)
says_held identifier None v = (refl, refl)
says_held identifier (Some content) v = (refl, refl)

kind_goes : (last : Option Remembered) (kind : RequestKind) (identifier : ℕ) (response : Option Content) (policy : Policy) (content : Content) (v : Channels) → Goes v (hears_kind last kind identifier response (follows policy content) v)
kind_goes last kind identifier response policy content v = by last
  where
    new : (can : Bool) → Goes v (cond can (follows policy content (says identifier response (remembers kind identifier response v))) v)
    new true =
        let t : Channels = remembers kind identifier response v in
        let u : Channels = says identifier response t in
        let same = says_held identifier response t in alike_goes v u (follows policy content u) same.0 same.1 (follows_goes policy content u)
    new false = same_goes v

    again : (one : Option Content) (can : Bool) → Goes v (cond can (says identifier one v) v)
    again one true = let u : Channels = says identifier one v in let same = says_held identifier one v in alike_goes v u u same.0 same.1 (same_goes u)
    again one false = same_goes v

    by : (found : Option Remembered) → Goes v (hears_kind found kind identifier response (follows policy content) v)
    by None = new (can_say response v)
    by (Some one) = on (eqb one.identifier identifier)
      where
        on : (same : Bool) → Goes v (cond same (hears_again identifier one.response v) (hears_new kind identifier response (follows policy content) v))
        on true = again one.response (can_say one.response v)
        on false = new (can_say response v)

-- ---- the channel is granted

connects_go : (v : Channels) (wish : Wish) (endpoint : ℕ) (held : Held) (request : Request) → held.stage ≡ Requested request → find (has_own held.own) v.held ≡ Some held → Goes v (connects wish endpoint held v)
connects_go v wish endpoint held request stage_is found =
    let asked : Setup = record no_setup { own = Asking (new_request v) (first_options wish) } in
    new_goes v (connects wish endpoint held v) held (Connected endpoint asked) found refl refl refl (Makes held request found stage_is)

connected_goes : (v : Channels) (policy : Policy) (endpoint result : ℕ) (held : Held) (request : Request) → held.stage ≡ Requested request → find (has_own held.own) v.held ≡ Some held → Goes v (hears_connected policy endpoint result held v)
connected_goes v policy endpoint result held request stage_is found =
    let made : Channels = connects (policy.wish held.psm) endpoint held v in
    let refused : Channels = closes (Refused result) held v in
    either (eqb result 0) v (cond (is_fresh_endpoint endpoint v) made v) (cond (eqb result 1) v refused) (either (is_fresh_endpoint endpoint v) v made v (connects_go v (policy.wish held.psm) endpoint held request stage_is found) (same_goes v))
    (either (eqb result 1) v v refused (same_goes v) (inl (rests_less v refused (closes-rests v held (Refused result) found))))

grant_at : (v : Channels) (stage : Stage) (policy : Policy) (identifier endpoint result : ℕ) (held : Held) → held.stage ≡ stage → find (has_own held.own) v.held ≡ Some held → Goes v (hears_grant_at stage policy identifier endpoint result held v)
grant_at v (Requested request) policy identifier endpoint result held is found = either (eqb request.identifier identifier) v (hears_connected policy endpoint result held v) v (connected_goes v policy endpoint result held request is found) (same_goes v)
grant_at v (Connected peer setup) policy identifier endpoint result held is found = same_goes v
grant_at v (Leaving peer setup request) policy identifier endpoint result held is found = same_goes v
grant_at v (Closing peer request checked) policy identifier endpoint result held is found = same_goes v
grant_at v (Crossed peer request) policy identifier endpoint result held is found = same_goes v

grant_goes : (v : Channels) (own : ℕ) (held : Option Held) (policy : Policy) (identifier endpoint result : ℕ) → find (has_own own) v.held ≡ held → Goes v (hears_grant held policy identifier endpoint result v)
grant_goes v own None policy identifier endpoint result is = same_goes v
grant_goes v own (Some held) policy identifier endpoint result is = grant_at v held.stage policy identifier endpoint result held refl (found-own own v held is)

-- ---- a response to the request for options

opened_held : (b : Bool) (held : Held) (v : Channels) → (opens_if b held v).held ≡ v.held
opened_held true held v = refl
opened_held false held v = refl

grants_less : (v : Channels) (held : Held) (setup : Setup) → find (has_own held.own) v.held ≡ Some held → setup_of held.stage ≡ Some setup → Less v (grants held setup v)
grants_less v held setup found is =
    let after : Setup = granted_setup setup in
    let u : Channels = to_setup held after (forgets (errands.Configuration held.own) v) in
    placed_less v (grants held setup v) held (stage_with after held.stage) found (opened_held (is_some setup.carrier) held u)
    (λ n waits. let never : Some None ≡ Some (Some n) = sym (setup-asks (stage_with after held.stage) after (with-setup held.stage setup after is)) ∙ waits in absurd cc)

renews_go : (v : Channels) (options : Options) (held : Held) (setup after : Setup) (n : ℕ) → after.own ≡ setup.own → asked_on (held_at held.own v) ≡ Some (Some n) → find (has_own held.own) v.held ≡ Some held → setup_of held.stage ≡ Some setup → Goes v (renews options held after v)
renews_go v options held setup after n same waits found is =
    either (is_leaving held.stage || nat_le 3 after.renewed) v (closes NoAgreement (with_setup held after) (to_setup held after v)) (asks_options held after options v) (inl (third_less v held setup after same found is))
    (asked_goes v held setup after options found is (Renews n waits))

settled_goes : (v : Channels) (now : Settled) (held : Held) (setup : Setup) (n : ℕ) → asked_on (held_at held.own v) ≡ Some (Some n) → find (has_own held.own) v.held ≡ Some held → setup_of held.stage ≡ Some setup → Goes v (hears_settled now held setup v)
settled_goes v settles.Accepted held setup n waits found is = inl (grants_less v held setup found is)
settled_goes v (settles.Again options) held setup n waits found is = renews_go v options held setup (renewed_setup setup) n refl waits found is
settled_goes v settles.Wait held setup n waits found is = same_goes v
settled_goes v settles.Never held setup n waits found is = inl (rests_less v (closes NoAgreement held v) (closes-rests v held NoAgreement found))

options_go : (v : Channels) (read : Result Options ConfigRefusal) (policy : Policy) (result : ℕ) (held : Held) (setup : Setup) (n : ℕ) → asked_on (held_at held.own v) ≡ Some (Some n) → find (has_own held.own) v.held ≡ Some held → setup_of held.stage ≡ Some setup → Goes v (hears_options read policy result held setup v)
options_go v (Ok options) policy result held setup n waits found is = settled_goes v (settled (policy.wish held.psm) result options) held setup n waits found is
options_go v (Err refusal) policy result held setup n waits found is = same_goes v

response_goes : (v : Channels) (policy : Policy) (identifier result : ℕ) (octets : List ℕ) (held : Held) (setup : Setup) → find (has_own held.own) v.held ≡ Some held → setup_of held.stage ≡ Some setup → Goes v (hears_response_on (Some setup) policy identifier result octets held v)
response_goes v policy identifier result octets held setup found is = by setup.own refl
  where
    by : (own : Own) → setup.own ≡ own → Goes v (cond (is_asked identifier own) (hears_options (options_read octets) policy result held setup v) v)
    by Unasked asks = same_goes v
    by (Asking request options) asks =
        either (eqb request.identifier identifier) v (hears_options (options_read octets) policy result held setup v) v
        (options_go v (options_read octets) policy result held setup request.identifier (ap asked_on found ∙ (setup-asks held.stage setup is ∙ ap (λ o. Some (asked_by (own_request o))) asks)) found is) (same_goes v)
    by Granted asks = same_goes v

response_on : (v : Channels) (setup : Option Setup) (policy : Policy) (identifier result : ℕ) (octets : List ℕ) (held : Held) → find (has_own held.own) v.held ≡ Some held → setup_of held.stage ≡ setup → Goes v (hears_response_on setup policy identifier result octets held v)
response_on v None policy identifier result octets held found is = same_goes v
response_on v (Some setup) policy identifier result octets held found is = response_goes v policy identifier result octets held setup found is

responded_goes : (v : Channels) (own : ℕ) (held : Option Held) (policy : Policy) (identifier result : ℕ) (octets : List ℕ) → find (has_own own) v.held ≡ held → Goes v (hears_response held policy identifier result octets v)
responded_goes v own None policy identifier result octets is = same_goes v
responded_goes v own (Some held) policy identifier result octets is = response_on v (setup_of held.stage) policy identifier result octets held (found-own own v held is) refl

-- ---- a command

content_goes : (policy : Policy) (identifier : ℕ) (content : Content) (v : Channels) → Goes v (hears_content policy identifier content v)
content_goes policy identifier (reject reason rest) v = inl (rests_less v (hears_features identifier None v) (features_rest identifier None v))
content_goes policy identifier (connection_request psm source) v = let c : Content = connection_request psm source in kind_goes v.memory.connection kinds.Connection identifier (answer_to policy c v) policy c v
content_goes policy identifier (connection_response destination source answer status) v = grant_goes v source (held_at source v) policy identifier destination answer refl
content_goes policy identifier (configuration_request destination flags options) v = let c : Content = configuration_request destination flags options in kind_goes v.memory.configuration kinds.Configuration identifier (answer_to policy c v) policy c v
content_goes policy identifier (configuration_response source flags answer options) v = responded_goes v source (held_at source v) policy identifier answer options refl
content_goes policy identifier (disconnection_request destination source) v = let c : Content = disconnection_request destination source in kind_goes v.memory.disconnection kinds.Disconnection identifier (answer_to policy c v) policy c v
content_goes policy identifier (disconnection_response destination source) v = inl (rests_less v (hears_end (held_at source v) destination v) (end-rests v (held_at source v) destination))
content_goes policy identifier (echo_request octets) v = let c : Content = echo_request octets in kind_goes v.memory.echo kinds.Echo identifier (answer_to policy c v) policy c v
content_goes policy identifier (echo_response octets) v = same_goes v
content_goes policy identifier (information_request kind) v = let c : Content = information_request kind in kind_goes v.memory.information kinds.Information identifier (answer_to policy c v) policy c v
content_goes policy identifier (information_response kind answer rest) v = let given : Option ℕ = features_in kind answer rest in inl (rests_less v (hears_features identifier given v) (features_rest identifier given v))

-- ---- a PDU on a channel

carries_less : (v : Channels) (carrier : Carrier) (pdu : List ℕ) (held : Held) (setup : Setup) → find (has_own held.own) v.held ≡ Some held → setup_of held.stage ≡ Some setup → Less v (carries carrier pdu held setup v)
carries_less v (Plain agreed waiting) pdu held setup found is = λ own n waits. waits
carries_less v (Retransmitting machine) pdu held setup found is = let after : Ertm = machine_heard (read_by machine pdu) machine in rests_less v (settles_machine after.closed after held setup v) (settles-rests v after.closed after held setup found is)

opened_less : (v : Channels) (pdu : List ℕ) (held : Held) (setup : Setup) (carrier : Carrier) (own : Own) → setup.own ≡ own → find (has_own held.own) v.held ≡ Some held → setup_of held.stage ≡ Some setup
    → Less v (cond (is_taken_with own carrier pdu) (carries carrier pdu (with_setup held (granted_setup setup)) (granted_setup setup) (opens_with own held setup v)) v)
opened_less v pdu held setup carrier Unasked own_is found is = λ own n waits. waits
opened_less v pdu held setup carrier (Asking request options) own_is found is = by (shows carrier pdu)
  where
    u : Channels
    u = grants held setup v

    there : (b : Bool) → find (has_own held.own) (opens_if b held (to_setup held (granted_setup setup) (forgets (errands.Configuration held.own) v))).held ≡ Some (with_setup held (granted_setup setup))
    there true = with-found v held (granted_setup setup) found
    there false = with-found v held (granted_setup setup) found

    by : (b : Bool) → Less v (cond b (carries carrier pdu (with_setup held (granted_setup setup)) (granted_setup setup) (grants held setup v)) v)
    by true =
        less_both v (grants held setup v) (carries carrier pdu (with_setup held (granted_setup setup)) (granted_setup setup) (grants held setup v)) (grants_less v held setup found is)
        (carries_less (grants held setup v) carrier pdu (with_setup held (granted_setup setup)) (granted_setup setup) (there (is_some setup.carrier)) (with-setup held.stage setup (granted_setup setup) is))
    by false = λ own n waits. waits
opened_less v pdu held setup carrier Granted own_is found is =
    let same : with_setup held (granted_setup setup) ≡ held = ap (λ (s : Stage). let h : Held = record held { stage = s } in h) (granted-same held.stage setup is own_is) in
    carries_less v carrier pdu (with_setup held (granted_setup setup)) (granted_setup setup) (found ∙ ap Some (sym same)) (with-setup held.stage setup (granted_setup setup) is)

taken_on : (v : Channels) (setup : Option Setup) (pdu : List ℕ) (held : Held) → find (has_own held.own) v.held ≡ Some held → setup_of held.stage ≡ setup → Less v (takes_on setup pdu held v)
taken_on v None pdu held found is = λ own n waits. waits
taken_on v (Some setup) pdu held found is = by setup.carrier
  where
    by : (carrier : Option Carrier) → Less v (takes_with carrier pdu held setup v)
    by None = λ own n waits. waits
    by (Some carrier) = opened_less v pdu held setup carrier setup.own refl found is

taken_held : (v : Channels) (own : ℕ) (held : Option Held) (pdu : List ℕ) → find (has_own own) v.held ≡ held → Less v (takes_held held pdu v)
taken_held v own None pdu is = λ other n waits. waits
taken_held v own (Some held) pdu is = taken_on v (setup_of held.stage) pdu held (found-own own v held is) refl

-- ---- the timer

channels_rest : (tries : ℕ) (owns : List ℕ) (v : Channels) → Rests v (times_channels tries owns v)
channels_rest tries [] v = same-rests v v refl
channels_rest tries (own ∷ owns) v =
    let u : Channels = times_held (held_at own v) tries v in
    let w : Channels = times_end (held_at own u) tries u in
    both-rest v w (times_channels tries owns w) (both-rest v u w (times-rest tries own v) (ends-rest tries own u)) (channels_rest tries owns w)

features_held : (tries : ℕ) (v : Channels) (features : Option Request) → (times_features features tries v).held ≡ v.held
features_held tries v None = refl
features_held tries v (Some request) = by (is_due errands.Features v) (nat_le tries request.given)
  where
    by : (due most : Bool) → (fires (cond due StillDue (cond most Spent OnceMore)) errands.Features loses_features v).held ≡ v.held
    by true most = refl
    by false true = refl
    by false false = refl

-- ---- whatever happens

-- what comes in on the signalling channel is one command
abbrev pub ComesPlainly : Occurrence → Type 0
ComesPlainly (Comes pdu) = eqb (channel_of pdu) 0x0001 ≡ true → (command : Command) × (answers (drop 4 pdu) ≡ Ok command ∷ [])
ComesPlainly (Connects psm) = Unit {0}
ComesPlainly AsksFeatures = Unit {0}
ComesPlainly (Disconnects own) = Unit {0}
ComesPlainly (Sends own sdu) = Unit {0}
ComesPlainly (Gives pdu) = Unit {0}
ComesPlainly Fires = Unit {0}
ComesPlainly Tells = Unit {0}

pub occurs-goes : (policy : Policy) (more : Occurrence) (v : Channels) → ComesPlainly more → Distinct own_of v.held → Goes v (value_after policy more v)
occurs-goes policy (Comes pdu) v plain lone = by (eqb (channel_of pdu) 0x0001) refl
  where
    by : (signals : Bool) → eqb (channel_of pdu) 0x0001 ≡ signals → Goes v (cond signals (hears_commands policy (answers (drop 4 pdu)) v) (takes (channel_of pdu) pdu v))
    by true is = let (command, read) = plain is in subst (λ list. Goes v (hears_commands policy list v)) (sym read) (content_goes policy command.identifier command.content v)
    by false is = inl (taken_held v (channel_of pdu) (held_at (channel_of pdu) v) pdu refl)
occurs-goes policy (Connects psm) v plain lone = inl (rests_less v (connected psm v) (connects-rest psm v))
occurs-goes policy AsksFeatures v plain lone = inl (rests_less v (asks_features v) (asks-rest v))
occurs-goes policy (Disconnects own) v plain lone = inl (rests_less v (disconnected own v) (disconnects-rests own v))
occurs-goes policy (Sends own sdu) v plain lone = inl (rests_less v (sends own sdu v) (sends-rest own sdu v))
occurs-goes policy (Gives pdu) v plain lone = inl (rests_less v (after_given v) (gives-rest v lone))
occurs-goes policy Fires v plain lone =
    let u : Channels = times_channels policy.tries (map (λ (held : Held). held.own) v.held) v in
    inl (rests_less v (timed_out policy v) (both-rest v u (timed_out policy v) (channels_rest policy.tries (map (λ (held : Held). held.own) v.held) v) (same-rests u (timed_out policy v) (features_held policy.tries u u.features))))
occurs-goes policy Tells v plain lone = inl (λ own n is. is)
