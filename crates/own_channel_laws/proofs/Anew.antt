-- Where a host asks anew for the options of a channel: behind its first acceptance, and behind the grant of the channel.
use Rattle.std.proofs.Common.{◌≡◌, ℕ, List, map, Bool, true, false, cond, eqb, Option, Some, None, refl, ap, subst, ◌∙◌, ◌⊎◌, inl, inr}
use Rattle.std.specs.Prelude.{find, nat_le}
use Rattle.std.specs.Option.{option_or}
use Rattle.std.proofs.lemmas.Bool.{eqb-true}
use Rattle.talk_laws.specs.l2cap_signal.specs.Commands.{Content, reject, connection_request, connection_response, configuration_request, configuration_response, disconnection_request, disconnection_response, echo_request, echo_response, information_request, information_response}
use Rattle.talk_laws.specs.l2cap_config.specs.declared.options.Options.{Options}
use Rattle.talk_laws.specs.l2cap_config.specs.declared.agreement.ConfigAnswer.{ConfigAnswer}
use Rattle.talk_laws.specs.l2cap_config.specs.declared.agreement.ConfigAnswer.TheVariants.{Accept, Unacceptable, Unknown}
use Rattle.talk_laws.specs.l2cap_config.specs.declared.wish.Wish.{Wish}
use Rattle.channel_model.specs.declared.errand.Errand.TheVariants as errands
use Rattle.channel_model.specs.declared.event.CloseReason.TheVariants.{NoAgreement, Refused}
use Rattle.channel_model.specs.Value.{Request, Own, Unasked, Asking, Granted, Setup, no_setup, Stage, Requested, Connected, Leaving, Closing, Crossed, Held, Channels}
use Rattle.channel_model.specs.Policies.{Policy}
use Rattle.channel_model.specs.Changing.{has_own, held_at, in_place_of, setup_of, stage_with, with_setup, to_setup, forgets}
use Rattle.channel_model.specs.Asking.{next_identifier, new_request, first_options, asks_options}
use Rattle.channel_model.specs.Closing.{closes}
use Rattle.channel_model.specs.Configuring.{Verdict, NoChannel, TooLate, Unreadable, Incomplete, Judged, verdict, accepted_setup, without_parts, accepts_with, refused_setup, follows_answer, follows_verdict}
use Rattle.channel_model.specs.Answers.{connection_result}
use Rattle.channel_model.specs.Following.{with_channel, follows_setup, follows_configuration, follows}
use Rattle.channel_model.specs.Responses.{is_fresh_endpoint, connects, hears_connected, hears_grant_at, hears_grant}
use Rattle.channel_model.proofs.Lookups.{own_of, found-placed, find-placed, find-append}
use Rattle.channel_model.proofs.Going.{staged, new_held}
use Rattle.channel_model.proofs.Walking.{found-own, with-found}
use Rattle.own_channel_laws.specs.OwnTalk.{newest}
use Rattle.own_channel_laws.proofs.Asking.{newest-asks}
use Rattle.own_channel_laws.proofs.Demanding.{asked_at, asked_on, Stays, Rests, both-rest, same-rests, setup-rests, closes-rests, disconnection-rests}

-- ---- what may become of one channel

-- its request is the newest, with the next identifier
pub record IsAnew (own : ℕ) (v w : Channels) : Type 0 where
  pub next : w.identifier ≡ next_identifier v.identifier
  pub newest_is : newest w.queue ≡ Some (errands.Configuration own)
  pub asked : asked_on (held_at own w) ≡ Some (Some v.identifier)

-- it has come to be, and nothing is asked of it yet
pub record IsBorn (own : ℕ) (v w : Channels) : Type 0 where
  pub own_is : v.next ≡ own
  pub asked : asked_on (held_at own w) ≡ Some None

abbrev pub GoesAt : ℕ → Channels → Channels → Type 0
GoesAt own v w = Stays (asked_on (held_at own w)) (asked_on (held_at own v)) ⊎ (IsAnew own v w ⊎ IsBorn own v w)

abbrev pub Goes : Channels → Channels → Type 0
Goes v w = (own : ℕ) → GoesAt own v w

pub rests-goes : (v w : Channels) → Rests v w → Goes v w
rests-goes v w rests own = inl (rests own)

same_goes : (v : Channels) → Goes v v
same_goes v = rests-goes v v (same-rests v v refl)

either : (b : Bool) (v x y : Channels) → Goes v x → Goes v y → Goes v (cond b x y)
either true v x y one other = one
either false v x y one other = other

-- ---- a new request

pub anew : (v w : Channels) (held : Held) (stage : Stage) → find (has_own held.own) v.held ≡ Some held → w.held ≡ map (in_place_of (staged held stage)) v.held → w.identifier ≡ next_identifier v.identifier
    → newest w.queue ≡ Some (errands.Configuration held.own) → (asked_at stage ≡ None) ⊎ (asked_at stage ≡ Some (Some v.identifier)) → Goes v w
anew v w held stage found held_is next newest_is asks own = by (eqb held.own own) refl
  where
    w_is : find (has_own held.own) w.held ≡ Some (staged held stage)
    w_is = ap (find (has_own held.own)) held_is ∙ found-placed (staged held stage) held v.held found

    here : (asked_at stage ≡ None) ⊎ (asked_at stage ≡ Some (Some v.identifier)) → GoesAt held.own v w
    here (inl none) = inl (inl (ap asked_on w_is ∙ none))
    here (inr some) = inr (inl (record { next = next; newest_is = newest_is; asked = ap asked_on w_is ∙ some }))

    by : (same : Bool) → eqb held.own own ≡ same → GoesAt own v w
    by true now = subst (λ n. GoesAt n v w) (eqb-true held.own own now) (here asks)
    by false now = inl (inr (ap asked_on (ap (find (has_own own)) held_is ∙ find-placed (staged held stage) v.held own now)))

asked_with : (request : Request) (options : Options) (after : Setup) (stage : Stage) → (let asked : Setup = record after { own = Asking request options } in (asked_at (stage_with asked stage) ≡ None) ⊎ (asked_at (stage_with asked stage) ≡ Some (Some request.identifier)))
asked_with request options after (Requested other) = inl refl
asked_with request options after (Connected peer setup) = inr refl
asked_with request options after (Leaving peer setup other) = inr refl
asked_with request options after (Closing peer other checked) = inl refl
asked_with request options after (Crossed peer other) = inl refl

pub asks-anew : (v : Channels) (held : Held) (after : Setup) (options : Options) → find (has_own held.own) v.held ≡ Some held → Goes v (asks_options held after options v)
asks-anew v held after options found =
    let asked : Setup = record after { own = Asking (new_request v) options } in
    anew v (asks_options held after options v) held (stage_with asked held.stage) found refl refl (newest-asks (errands.Configuration held.own) (to_setup held asked v)) (asked_with (new_request v) options after held.stage)

-- ---- what follows from a request of the peer for options

to_goes : (v w : Channels) (held : Held) (setup after : Setup) → find (has_own held.own) v.held ≡ Some held → setup_of held.stage ≡ Some setup → after.own ≡ setup.own → w.held ≡ (to_setup held after v).held → Goes v w
to_goes v w held setup after found is same held_is = rests-goes v w (setup-rests v w held setup after found is same held_is)

accepts_go : (v : Channels) (own : Own) (wish : Wish) (held : Held) (setup after : Setup) → after.own ≡ setup.own → find (has_own held.own) v.held ≡ Some held → setup_of held.stage ≡ Some setup → Goes v (accepts_with own wish held after v)
accepts_go v Unasked wish held setup after same found is = asks-anew v held after (first_options wish) found
accepts_go v (Asking request options) wish held setup after same found is = to_goes v (to_setup held after v) held setup after found is same refl
accepts_go v Granted wish held setup after same found is = to_goes v (accepts_with Granted wish held after v) held setup after found is same refl

pub third-goes : (v : Channels) (held : Held) (setup after : Setup) → after.own ≡ setup.own → find (has_own held.own) v.held ≡ Some held → setup_of held.stage ≡ Some setup → Goes v (closes NoAgreement (with_setup held after) (to_setup held after v))
third-goes v held setup after same found is =
    let u : Channels = to_setup held after v in
    let w : Channels = closes NoAgreement (with_setup held after) u in
    rests-goes v w (both-rest v u w (setup-rests v u held setup after found is same refl) (closes-rests u (with_setup held after) NoAgreement (with-found v held after found)))

answer_goes : (v : Channels) (answer : ConfigAnswer) (wish : Wish) (options : Options) (held : Held) (setup : Setup) → find (has_own held.own) v.held ≡ Some held → setup_of held.stage ≡ Some setup → Goes v (follows_answer answer wish options held setup v)
answer_goes v (Accept given) wish options held setup found is = accepts_go v setup.own wish held setup (accepted_setup wish options setup) refl found is
answer_goes v (Unacceptable refusal given) wish options held setup found is =
    let after : Setup = refused_setup setup in
    either (nat_le 3 after.refused) v (closes NoAgreement (with_setup held after) (to_setup held after v)) (to_setup held after v) (third-goes v held setup after refl found is) (to_goes v (to_setup held after v) held setup after found is refl refl)
answer_goes v Unknown wish options held setup found is = to_goes v (to_setup held (without_parts setup) v) held setup (without_parts setup) found is refl refl

verdict_goes : (v : Channels) (now : Verdict) (wish : Wish) (held : Held) (setup : Setup) → find (has_own held.own) v.held ≡ Some held → setup_of held.stage ≡ Some setup → Goes v (follows_verdict now wish held setup v)
verdict_goes v NoChannel wish held setup found is = same_goes v
verdict_goes v (TooLate peer) wish held setup found is = same_goes v
verdict_goes v (Unreadable peer) wish held setup found is = to_goes v (to_setup held (without_parts setup) v) held setup (without_parts setup) found is refl refl
verdict_goes v (Incomplete peer options) wish held setup found is =
    let after : Setup = record setup { parts = options } in to_goes v (to_setup held after v) held setup after found is refl refl
verdict_goes v (Judged peer options answer) wish held setup found is = answer_goes v answer wish options held setup found is

setup_follows : (v : Channels) (setup : Option Setup) (policy : Policy) (held : Held) (flags : ℕ) (octets : List ℕ) → find (has_own held.own) v.held ≡ Some held → setup_of held.stage ≡ setup → Goes v (follows_setup setup policy held flags octets v)
setup_follows v None policy held flags octets found is = same_goes v
setup_follows v (Some setup) policy held flags octets found is = verdict_goes v (verdict policy held.own flags octets v) (policy.wish held.psm) held setup found is

configuration_goes : (v : Channels) (own : ℕ) (held : Option Held) (policy : Policy) (flags : ℕ) (octets : List ℕ) → find (has_own own) v.held ≡ held → Goes v (follows_configuration held policy flags octets v)
configuration_goes v own None policy flags octets is = same_goes v
configuration_goes v own (Some held) policy flags octets is = setup_follows v (setup_of held.stage) policy held flags octets (found-own own v held is) refl

-- a channel that is there at once
born_goes : (v : Channels) (psm source : ℕ) → find (has_own v.next) v.held ≡ None → Goes v (with_channel psm (Connected source no_setup) v)
born_goes v psm source none own = by (eqb v.next own) refl
  where
    new : Held
    new = new_held psm v.next (Connected source no_setup)

    w : Channels
    w = with_channel psm (Connected source no_setup) v

    at : (found : Option Held) → found ≡ None → (b : Bool) → b ≡ true → asked_on (option_or found (cond b (Some new) None)) ≡ Some None
    at None is true now = refl
    at None is false now = cc
    at (Some held) is b now = cc

    kept : (found : Option Held) (b : Bool) → b ≡ false → asked_on (option_or found (cond b (Some new) None)) ≡ asked_on found
    kept None false now = refl
    kept None true now = cc
    kept (Some held) b now = refl

    by : (same : Bool) → eqb v.next own ≡ same → GoesAt own v w
    by true now =
        let same : v.next ≡ own = eqb-true v.next own now in
        inr (inr (record {
          own_is = same;
          asked = ap asked_on (find-append own_of own v.held new) ∙ at (find (has_own own) v.held) (subst (λ n. find (has_own n) v.held ≡ None) same none) (eqb v.next own) now;
        }))
    by false now = inl (inr (ap asked_on (find-append own_of own v.held new) ∙ kept (find (has_own own) v.held) (eqb v.next own) now))

pub follows-goes : (policy : Policy) (content : Content) (v : Channels) → find (has_own v.next) v.held ≡ None → Goes v (follows policy content v)
follows-goes policy (reject reason rest) v none = same_goes v
follows-goes policy (connection_request psm source) v none = either (eqb (connection_result policy psm source v) 0) v (with_channel psm (Connected source no_setup) v) v (born_goes v psm source none) (same_goes v)
follows-goes policy (connection_response destination source answer status) v none = same_goes v
follows-goes policy (configuration_request destination flags options) v none = configuration_goes v destination (held_at destination v) policy flags options refl
follows-goes policy (configuration_response source flags answer options) v none = same_goes v
follows-goes policy (disconnection_request destination source) v none = rests-goes v (follows policy (disconnection_request destination source) v) (disconnection-rests v destination source (held_at destination v) refl)
follows-goes policy (disconnection_response destination source) v none = same_goes v
follows-goes policy (echo_request octets) v none = same_goes v
follows-goes policy (echo_response octets) v none = same_goes v
follows-goes policy (information_request kind) v none = same_goes v
follows-goes policy (information_response kind answer rest) v none = same_goes v

-- ---- the channel is granted

connects_go : (v : Channels) (wish : Wish) (endpoint : ℕ) (held : Held) → find (has_own held.own) v.held ≡ Some held → Goes v (connects wish endpoint held v)
connects_go v wish endpoint held found =
    let asked : Setup = record no_setup { own = Asking (new_request v) (first_options wish) } in
    anew v (connects wish endpoint held v) held (Connected endpoint asked) found refl refl
    (newest-asks (errands.Configuration held.own) (to_setup (staged held (Connected endpoint no_setup)) asked (forgets (errands.Connection held.own) v))) (inr refl)

connected_goes : (v : Channels) (policy : Policy) (endpoint result : ℕ) (held : Held) → find (has_own held.own) v.held ≡ Some held → Goes v (hears_connected policy endpoint result held v)
connected_goes v policy endpoint result held found =
    let made : Channels = connects (policy.wish held.psm) endpoint held v in
    let refused : Channels = closes (Refused result) held v in
    either (eqb result 0) v (cond (is_fresh_endpoint endpoint v) made v) (cond (eqb result 1) v refused) (either (is_fresh_endpoint endpoint v) v made v (connects_go v (policy.wish held.psm) endpoint held found) (same_goes v))
    (either (eqb result 1) v v refused (same_goes v) (rests-goes v refused (closes-rests v held (Refused result) found)))

grant_at : (v : Channels) (stage : Stage) (policy : Policy) (identifier endpoint result : ℕ) (held : Held) → find (has_own held.own) v.held ≡ Some held → Goes v (hears_grant_at stage policy identifier endpoint result held v)
grant_at v (Requested request) policy identifier endpoint result held found = either (eqb request.identifier identifier) v (hears_connected policy endpoint result held v) v (connected_goes v policy endpoint result held found) (same_goes v)
grant_at v (Connected peer setup) policy identifier endpoint result held found = same_goes v
grant_at v (Leaving peer setup request) policy identifier endpoint result held found = same_goes v
grant_at v (Closing peer request checked) policy identifier endpoint result held found = same_goes v
grant_at v (Crossed peer request) policy identifier endpoint result held found = same_goes v

pub grant-goes : (v : Channels) (own : ℕ) (held : Option Held) (policy : Policy) (identifier endpoint result : ℕ) → find (has_own own) v.held ≡ held → Goes v (hears_grant held policy identifier endpoint result v)
grant-goes v own None policy identifier endpoint result is = same_goes v
grant-goes v own (Some held) policy identifier endpoint result is = grant_at v held.stage policy identifier endpoint result held (found-own own v held is)
