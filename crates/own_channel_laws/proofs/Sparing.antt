-- No step but a firing lets a request be given again.
use Rattle.std.proofs.Common.{◌≡◌, ℕ, ◌≤◌, List, [], ◌∷◌, ◌++◌, Bool, true, false, cond, eqb, not, Option, Some, None, Result, Ok, Err, refl, sym, ap, subst, ◌∙◌, inl, inr, arith, ◌||◌}
use Rattle.std.specs.Prelude.{find, filter, option_map, is_some, nat_le}
use Rattle.std.specs.Option.{option_or}
use Rattle.talk_laws.specs.l2cap_signal.specs.Commands.{Content, reject, connection_request, connection_response, configuration_request, configuration_response, disconnection_request, disconnection_response, echo_request, echo_response, information_request, information_response}
use Rattle.talk_laws.specs.l2cap_config.specs.declared.options.Options.{Options}
use Rattle.talk_laws.specs.l2cap_config.specs.declared.options.ConfigRefusal.{ConfigRefusal}
use Rattle.talk_laws.specs.l2cap_config.specs.declared.agreement.ConfigAnswer.{ConfigAnswer}
use Rattle.talk_laws.specs.l2cap_config.specs.declared.agreement.ConfigAnswer.TheVariants.{Accept, Unacceptable, Unknown}
use Rattle.talk_laws.specs.l2cap_config.specs.declared.agreement.Settled.{Settled}
use Rattle.talk_laws.specs.l2cap_config.specs.declared.agreement.Settled.TheVariants.{Accepted, Again, Wait, Never}
use Rattle.talk_laws.specs.l2cap_config.specs.declared.wish.Wish.{Wish}
use Rattle.talk_laws.specs.l2cap_config.specs.Reading.{options_read}
use Rattle.talk_laws.specs.l2cap_config.specs.Agreement.{settled}
use Rattle.channel_model.specs.ertm_model.specs.declared.reason.ErtmReason.{ErtmReason}
use Rattle.channel_model.specs.ertm_model.specs.Value.{Ertm}
use Rattle.channel_model.specs.declared.errand.Errand.{Errand}
use Rattle.channel_model.specs.declared.errand.Errand.TheVariants as errands
use Rattle.channel_model.specs.declared.event.CloseReason.{CloseReason}
use Rattle.channel_model.specs.declared.event.CloseReason.TheVariants.{NoAgreement, Refused, OwnClosed}
use Rattle.channel_model.specs.Value.{Request, Own, Unasked, Asking, Granted, Carrier, Plain, Retransmitting, Setup, no_setup, Stage, Requested, Connected, Leaving, Closing, Crossed, Held, Channels}
use Rattle.channel_model.specs.Policies.{Policy}
use Rattle.channel_model.specs.Changing.{has_own, has_fcs_by, held_at, is_peer, setup_of, stage_with, with_setup, to_setup, is_copy, is_copy_about, forgets, is_leaving}
use Rattle.channel_model.specs.Asking.{new_request, first_options, asks_options}
use Rattle.channel_model.specs.Closing.{closes, closes_at, peer_closes_at, ends_at, ends}
use Rattle.channel_model.specs.Configuring.{Verdict, NoChannel, TooLate, Unreadable, Incomplete, Judged, verdict, accepted_setup, without_parts, accepts_with, refused_setup, follows_answer, follows_verdict, opens_if, granted_setup, grants}
use Rattle.channel_model.specs.Answers.{connection_result}
use Rattle.channel_model.specs.Following.{with_channel, follows_setup, follows_configuration, follows_disconnection, follows}
use Rattle.channel_model.specs.Responses.{is_fresh_endpoint, connects, hears_connected, hears_grant_at, hears_grant, renewed_setup, hears_settled, hears_options, is_asked, hears_response_on, hears_response, hears_end}
use Rattle.channel_model.specs.Carrying.{reason_of, settles_machine, machine_heard, read_by, carries, is_taken_with, shows, opens_with, takes_with, takes_on, takes_held, takes}
use Rattle.channel_model.specs.Calls.{disconnected_at, disconnected_held, disconnected, sends_setup, sends_on, sends_held, sends, carrier_with}
use Rattle.channel_model.specs.Changing.{is_open}
use Rattle.channel_model.proofs.Lookups.{own_of, find-append}
use Rattle.channel_model.proofs.Going.{new_held}
use Rattle.channel_model.proofs.Walking.{found-own, with-found, with-setup}
use Rattle.channel_model.proofs.Calling.{granted-same}
use Rattle.own_channel_laws.specs.Tries.{for_channel, own_request, for_options, for_end, request_at, request_of, copies}
use Rattle.own_channel_laws.proofs.Trying.{copies-less, By, Tame, both-tame, same-tame, Rests, rests-tame, asks-options-tame, asks-end-tame, dropped-tame}

either : (b : Bool) (v x y : Channels) → Tame v x → Tame v y → Tame v (cond b x y)
either true v x y one other = one
either false v x y one other = other

forgotten : (v : Channels) (errand e : Errand) → copies e (filter (λ x. not (is_copy errand x)) v.queue) ≤ copies e v.queue
forgotten v errand e = copies-less e (λ x. not (is_copy errand x)) v.queue

as_many : (v : Channels) (e : Errand) → copies e v.queue ≤ copies e v.queue
as_many v e = omega arith

-- ---- a channel is closed

gone_tame : (v w : Channels) (held : Held) → w.held ≡ filter (λ other. not (eqb other.own held.own)) v.held → w.features ≡ v.features → w.queue ≡ filter (λ x. not (is_copy_about held.own x)) v.queue → Tame v w
gone_tame v w held held_is features_is queue_is = dropped-tame v w held held_is features_is
    (λ e. subst (λ q. copies e q ≤ copies e v.queue) (sym queue_is) (copies-less e (λ x. not (is_copy_about held.own x)) v.queue))

closes_tame : (v : Channels) (held : Held) (reason : CloseReason) (stage : Stage) → held.stage ≡ stage → find (has_own held.own) v.held ≡ Some held → Tame v (closes_at stage reason held v)
closes_tame v held reason (Requested request) is found = gone_tame v (closes_at (Requested request) reason held v) held refl refl refl
closes_tame v held reason (Connected peer setup) is found =
    asks-end-tame v (closes_at (Connected peer setup) reason held v) held (Closing peer (new_request v) (has_fcs_by setup)) (new_request v) (filter (λ x. not (is_copy (errands.Configuration held.own) x)) v.queue) found refl refl refl
    (forgotten v (errands.Configuration held.own)) refl refl (inl refl) (inl refl)
closes_tame v held reason (Leaving peer setup request) is found =
    rests-tame v (closes_at (Leaving peer setup request) reason held v) held (Closing peer request (has_fcs_by setup)) found refl refl (forgotten v (errands.Configuration held.own)) (inl refl) (inl refl) (inr (sym (ap for_end is)))
closes_tame v held reason (Closing peer request checked) is found = same-tame v
closes_tame v held reason (Crossed peer request) is found = same-tame v

peer_tame : (v : Channels) (held : Held) (stage : Stage) → held.stage ≡ stage → find (has_own held.own) v.held ≡ Some held → Tame v (peer_closes_at stage held v)
peer_tame v held (Requested request) is found = same-tame v
peer_tame v held (Connected peer setup) is found = gone_tame v (peer_closes_at (Connected peer setup) held v) held refl refl refl
peer_tame v held (Leaving peer setup request) is found =
    rests-tame v (peer_closes_at (Leaving peer setup request) held v) held (Crossed peer request) found refl refl (forgotten v (errands.Configuration held.own)) (inl refl) (inl refl) (inr (sym (ap for_end is)))
peer_tame v held (Closing peer request checked) is found =
    rests-tame v (peer_closes_at (Closing peer request checked) held v) held (Crossed peer request) found refl refl (as_many v) (inl refl) (inl refl) (inr (sym (ap for_end is)))
peer_tame v held (Crossed peer request) is found = same-tame v

pub ends-tame : (v : Channels) (held : Held) (reason : CloseReason) (stage : Stage) → Tame v (ends_at stage reason held v)
ends-tame v held reason (Requested request) = same-tame v
ends-tame v held reason (Connected peer setup) = same-tame v
ends-tame v held reason (Leaving peer setup request) = gone_tame v (ends_at (Leaving peer setup request) reason held v) held refl refl refl
ends-tame v held reason (Closing peer request checked) = gone_tame v (ends_at (Closing peer request checked) reason held v) held refl refl refl
ends-tame v held reason (Crossed peer request) = gone_tame v (ends_at (Crossed peer request) reason held v) held refl refl refl

pub closes-tame : (v : Channels) (held : Held) (reason : CloseReason) → find (has_own held.own) v.held ≡ Some held → Tame v (closes reason held v)
closes-tame v held reason found = closes_tame v held reason held.stage refl found

-- ---- options

channel_same : (after : Setup) (stage : Stage) → for_channel (stage_with after stage) ≡ for_channel stage
channel_same after (Requested request) = refl
channel_same after (Connected peer setup) = refl
channel_same after (Leaving peer setup request) = refl
channel_same after (Closing peer request checked) = refl
channel_same after (Crossed peer request) = refl

end_same : (after : Setup) (stage : Stage) → for_end (stage_with after stage) ≡ for_end stage
end_same after (Requested request) = refl
end_same after (Connected peer setup) = refl
end_same after (Leaving peer setup request) = refl
end_same after (Closing peer request checked) = refl
end_same after (Crossed peer request) = refl

options_after : (after : Setup) (stage : Stage) (setup : Setup) → setup_of stage ≡ Some setup → (for_options (stage_with after stage) ≡ own_request after.own) × (for_options stage ≡ own_request setup.own)
options_after after (Requested request) setup is = cc
options_after after (Connected peer s) setup is = let same : s ≡ setup = cc in (refl, ap (λ (x : Setup). own_request x.own) same)
options_after after (Leaving peer s request) setup is = let same : s ≡ setup = cc in (refl, ap (λ (x : Setup). own_request x.own) same)
options_after after (Closing peer request checked) setup is = cc
options_after after (Crossed peer request) setup is = cc

rests_by : (now now' was was' : Option Request) → now' ≡ now → was' ≡ was → Rests now was → Rests now' was'
rests_by now now' was was' a b (inl none) = inl (a ∙ none)
rests_by now now' was was' a b (inr same) = inr (a ∙ (same ∙ sym b))

pub setup-tame : (v w : Channels) (held : Held) (setup after : Setup) → find (has_own held.own) v.held ≡ Some held → setup_of held.stage ≡ Some setup → w.held ≡ (to_setup held after v).held → w.features ≡ v.features → ((e : Errand) → copies e w.queue ≤ copies e v.queue)
    → Rests (own_request after.own) (own_request setup.own) → Tame v w
setup-tame v w held setup after found is held_is features_is less rests =
    let both = options_after after held.stage setup is in
    rests-tame v w held (stage_with after held.stage) found held_is features_is less (inr (channel_same after held.stage))
    (rests_by (own_request after.own) (for_options (stage_with after held.stage)) (own_request setup.own) (for_options held.stage) both.0 both.1 rests) (inr (end_same after held.stage))

asked_tame : (v : Channels) (held : Held) (setup after : Setup) (options : Options) → find (has_own held.own) v.held ≡ Some held → setup_of held.stage ≡ Some setup → Tame v (asks_options held after options v)
asked_tame v held setup after options found is =
    let asked : Setup = record after { own = Asking (new_request v) options } in
    asks-options-tame v (asks_options held after options v) held (stage_with asked held.stage) (new_request v) v.queue found refl refl refl (as_many v)
    (options_after asked held.stage setup is).0 refl (inr (channel_same asked held.stage)) (inr (end_same asked held.stage))

grants_tame : (v : Channels) (held : Held) (setup : Setup) → find (has_own held.own) v.held ≡ Some held → setup_of held.stage ≡ Some setup → Tame v (grants held setup v)
grants_tame v held setup found is = by (is_some setup.carrier)
  where
    by : (b : Bool) → Tame v (opens_if b held (to_setup held (granted_setup setup) (forgets (errands.Configuration held.own) v)))
    by true = setup-tame v (opens_if true held (to_setup held (granted_setup setup) (forgets (errands.Configuration held.own) v))) held setup (granted_setup setup) found is refl refl (forgotten v (errands.Configuration held.own)) (inl refl)
    by false = setup-tame v (to_setup held (granted_setup setup) (forgets (errands.Configuration held.own) v)) held setup (granted_setup setup) found is refl refl (forgotten v (errands.Configuration held.own)) (inl refl)

accepts_tame : (v : Channels) (own : Own) (wish : Wish) (held : Held) (setup after : Setup) → after.own ≡ setup.own → find (has_own held.own) v.held ≡ Some held → setup_of held.stage ≡ Some setup → Tame v (accepts_with own wish held after v)
accepts_tame v Unasked wish held setup after same found is = asked_tame v held setup after (first_options wish) found is
accepts_tame v (Asking request options) wish held setup after same found is = setup-tame v (to_setup held after v) held setup after found is refl refl (as_many v) (inr (ap own_request same))
accepts_tame v Granted wish held setup after same found is = setup-tame v (accepts_with Granted wish held after v) held setup after found is refl refl (as_many v) (inr (ap own_request same))

third_tame : (v : Channels) (held : Held) (setup after : Setup) → after.own ≡ setup.own → find (has_own held.own) v.held ≡ Some held → setup_of held.stage ≡ Some setup → Tame v (closes NoAgreement (with_setup held after) (to_setup held after v))
third_tame v held setup after same found is =
    let u : Channels = to_setup held after v in
    both-tame v u (closes NoAgreement (with_setup held after) u) (setup-tame v u held setup after found is refl refl (as_many v) (inr (ap own_request same)))
    (closes-tame u (with_setup held after) NoAgreement (with-found v held after found))

answer_tame : (v : Channels) (answer : ConfigAnswer) (wish : Wish) (options : Options) (held : Held) (setup : Setup) → find (has_own held.own) v.held ≡ Some held → setup_of held.stage ≡ Some setup → Tame v (follows_answer answer wish options held setup v)
answer_tame v (Accept given) wish options held setup found is = accepts_tame v setup.own wish held setup (accepted_setup wish options setup) refl found is
answer_tame v (Unacceptable refusal given) wish options held setup found is =
    let after : Setup = refused_setup setup in
    either (nat_le 3 after.refused) v (closes NoAgreement (with_setup held after) (to_setup held after v)) (to_setup held after v) (third_tame v held setup after refl found is)
    (setup-tame v (to_setup held after v) held setup after found is refl refl (as_many v) (inr refl))
answer_tame v Unknown wish options held setup found is = setup-tame v (to_setup held (without_parts setup) v) held setup (without_parts setup) found is refl refl (as_many v) (inr refl)

verdict_tame : (v : Channels) (now : Verdict) (wish : Wish) (held : Held) (setup : Setup) → find (has_own held.own) v.held ≡ Some held → setup_of held.stage ≡ Some setup → Tame v (follows_verdict now wish held setup v)
verdict_tame v NoChannel wish held setup found is = same-tame v
verdict_tame v (TooLate peer) wish held setup found is = same-tame v
verdict_tame v (Unreadable peer) wish held setup found is = setup-tame v (to_setup held (without_parts setup) v) held setup (without_parts setup) found is refl refl (as_many v) (inr refl)
verdict_tame v (Incomplete peer options) wish held setup found is =
    let after : Setup = record setup { parts = options } in setup-tame v (to_setup held after v) held setup after found is refl refl (as_many v) (inr refl)
verdict_tame v (Judged peer options answer) wish held setup found is = answer_tame v answer wish options held setup found is

setup_follows : (v : Channels) (setup : Option Setup) (policy : Policy) (held : Held) (flags : ℕ) (octets : List ℕ) → find (has_own held.own) v.held ≡ Some held → setup_of held.stage ≡ setup → Tame v (follows_setup setup policy held flags octets v)
setup_follows v None policy held flags octets found is = same-tame v
setup_follows v (Some setup) policy held flags octets found is = verdict_tame v (verdict policy held.own flags octets v) (policy.wish held.psm) held setup found is

configuration_tame : (v : Channels) (own : ℕ) (held : Option Held) (policy : Policy) (flags : ℕ) (octets : List ℕ) → find (has_own own) v.held ≡ held → Tame v (follows_configuration held policy flags octets v)
configuration_tame v own None policy flags octets is = same-tame v
configuration_tame v own (Some held) policy flags octets is = setup_follows v (setup_of held.stage) policy held flags octets (found-own own v held is) refl

disconnection_tame : (v : Channels) (own : ℕ) (held : Option Held) (peer : ℕ) → find (has_own own) v.held ≡ held → Tame v (follows_disconnection held peer v)
disconnection_tame v own None peer is = same-tame v
disconnection_tame v own (Some held) peer is = either (is_peer peer held.stage) v (peer_closes_at held.stage held v) v (peer_tame v held held.stage refl (found-own own v held is)) (same-tame v)

-- a channel that is there at once asks for nothing yet
invited_tame : (v : Channels) (psm source : ℕ) → Tame v (with_channel psm (Connected source no_setup) v)
invited_tame v psm source e r is = by e r is
  where
    new : Held
    new = new_held psm v.next (Connected source no_setup)

    at : (f : Stage → Option Request) (found : Option Held) (t : Bool) (r : Request) → f (Connected source no_setup) ≡ None → request_at f (option_or found (cond t (Some new) None)) ≡ Some r → request_at f found ≡ Some r
    at f None true r none some = let never : None ≡ Some r = sym none ∙ some in absurd cc
    at f None false r none some = some
    at f (Some held) t r none some = some

    found : (f : Stage → Option Request) (own : ℕ) (r : Request) → f (Connected source no_setup) ≡ None → request_at f (find (has_own own) (v.held ++ new ∷ [])) ≡ Some r → request_at f (find (has_own own) v.held) ≡ Some r
    found f own r none some = at f (find (has_own own) v.held) (eqb v.next own) r none (sym (ap (request_at f) (find-append own_of own v.held new)) ∙ some)

    by : (e : Errand) (r : Request) → request_of e (with_channel psm (Connected source no_setup) v) ≡ Some r → By (copies e v.queue) (copies e v.queue) (request_of e v) r
    by (errands.Connection own) r some = inr (found for_channel own r refl some, omega arith)
    by (errands.Configuration own) r some = inr (found for_options own r refl some, omega arith)
    by (errands.Disconnection own) r some = inr (found for_end own r refl some, omega arith)
    by errands.Features r some = inr (some, omega arith)

pub follows-tame : (policy : Policy) (content : Content) (v : Channels) → Tame v (follows policy content v)
follows-tame policy (reject reason rest) v = same-tame v
follows-tame policy (connection_request psm source) v = either (eqb (connection_result policy psm source v) 0) v (with_channel psm (Connected source no_setup) v) v (invited_tame v psm source) (same-tame v)
follows-tame policy (connection_response destination source answer status) v = same-tame v
follows-tame policy (configuration_request destination flags options) v = configuration_tame v destination (held_at destination v) policy flags options refl
follows-tame policy (configuration_response source flags answer options) v = same-tame v
follows-tame policy (disconnection_request destination source) v = disconnection_tame v destination (held_at destination v) source refl
follows-tame policy (disconnection_response destination source) v = same-tame v
follows-tame policy (echo_request octets) v = same-tame v
follows-tame policy (echo_response octets) v = same-tame v
follows-tame policy (information_request kind) v = same-tame v
follows-tame policy (information_response kind answer rest) v = same-tame v

-- ---- what the peer responds about channels

connects_tame : (v : Channels) (wish : Wish) (endpoint : ℕ) (held : Held) → find (has_own held.own) v.held ≡ Some held → Tame v (connects wish endpoint held v)
connects_tame v wish endpoint held found =
    let asked : Setup = record no_setup { own = Asking (new_request v) (first_options wish) } in
    asks-options-tame v (connects wish endpoint held v) held (Connected endpoint asked) (new_request v) (filter (λ x. not (is_copy (errands.Connection held.own) x)) v.queue) found refl refl refl
    (forgotten v (errands.Connection held.own)) refl refl (inl refl) (inl refl)

connected_tame : (v : Channels) (policy : Policy) (endpoint result : ℕ) (held : Held) → find (has_own held.own) v.held ≡ Some held → Tame v (hears_connected policy endpoint result held v)
connected_tame v policy endpoint result held found =
    let made : Channels = connects (policy.wish held.psm) endpoint held v in
    let refused : Channels = closes (Refused result) held v in
    either (eqb result 0) v (cond (is_fresh_endpoint endpoint v) made v) (cond (eqb result 1) v refused) (either (is_fresh_endpoint endpoint v) v made v (connects_tame v (policy.wish held.psm) endpoint held found) (same-tame v))
    (either (eqb result 1) v v refused (same-tame v) (closes-tame v held (Refused result) found))

grant_at : (v : Channels) (stage : Stage) (policy : Policy) (identifier endpoint result : ℕ) (held : Held) → find (has_own held.own) v.held ≡ Some held → Tame v (hears_grant_at stage policy identifier endpoint result held v)
grant_at v (Requested request) policy identifier endpoint result held found = either (eqb request.identifier identifier) v (hears_connected policy endpoint result held v) v (connected_tame v policy endpoint result held found) (same-tame v)
grant_at v (Connected peer setup) policy identifier endpoint result held found = same-tame v
grant_at v (Leaving peer setup request) policy identifier endpoint result held found = same-tame v
grant_at v (Closing peer request checked) policy identifier endpoint result held found = same-tame v
grant_at v (Crossed peer request) policy identifier endpoint result held found = same-tame v

pub grant-tame : (v : Channels) (own : ℕ) (held : Option Held) (policy : Policy) (identifier endpoint result : ℕ) → find (has_own own) v.held ≡ held → Tame v (hears_grant held policy identifier endpoint result v)
grant-tame v own None policy identifier endpoint result is = same-tame v
grant-tame v own (Some held) policy identifier endpoint result is = grant_at v held.stage policy identifier endpoint result held (found-own own v held is)

settled_tame : (v : Channels) (now : Settled) (held : Held) (setup : Setup) → find (has_own held.own) v.held ≡ Some held → setup_of held.stage ≡ Some setup → Tame v (hears_settled now held setup v)
settled_tame v Accepted held setup found is = grants_tame v held setup found is
settled_tame v (Again options) held setup found is =
    let after : Setup = renewed_setup setup in
    either (is_leaving held.stage || nat_le 3 after.renewed) v (closes NoAgreement (with_setup held after) (to_setup held after v)) (asks_options held after options v) (third_tame v held setup after refl found is) (asked_tame v held setup after options found is)
settled_tame v Wait held setup found is = same-tame v
settled_tame v Never held setup found is = closes-tame v held NoAgreement found

options_tame : (v : Channels) (given : Result Options ConfigRefusal) (policy : Policy) (result : ℕ) (held : Held) (setup : Setup) → find (has_own held.own) v.held ≡ Some held → setup_of held.stage ≡ Some setup → Tame v (hears_options given policy result held setup v)
options_tame v (Ok options) policy result held setup found is = settled_tame v (settled (policy.wish held.psm) result options) held setup found is
options_tame v (Err refusal) policy result held setup found is = same-tame v

response_on : (v : Channels) (setup : Option Setup) (policy : Policy) (identifier result : ℕ) (octets : List ℕ) (held : Held) → find (has_own held.own) v.held ≡ Some held → setup_of held.stage ≡ setup → Tame v (hears_response_on setup policy identifier result octets held v)
response_on v None policy identifier result octets held found is = same-tame v
response_on v (Some setup) policy identifier result octets held found is =
    either (is_asked identifier setup.own) v (hears_options (options_read octets) policy result held setup v) v (options_tame v (options_read octets) policy result held setup found is) (same-tame v)

pub response-tame : (v : Channels) (own : ℕ) (held : Option Held) (policy : Policy) (identifier result : ℕ) (octets : List ℕ) → find (has_own own) v.held ≡ held → Tame v (hears_response held policy identifier result octets v)
response-tame v own None policy identifier result octets is = same-tame v
response-tame v own (Some held) policy identifier result octets is = response_on v (setup_of held.stage) policy identifier result octets held (found-own own v held is) refl

pub end-tame : (v : Channels) (held : Option Held) (peer : ℕ) → Tame v (hears_end held peer v)
end-tame v None peer = same-tame v
end-tame v (Some held) peer = either (is_peer peer held.stage) v (ends OwnClosed held v) v (ends-tame v held OwnClosed held.stage) (same-tame v)

-- ---- a PDU on a channel

pub settles-tame : (v : Channels) (closed : Option ErtmReason) (machine : Ertm) (held : Held) (setup : Setup) → find (has_own held.own) v.held ≡ Some held → setup_of held.stage ≡ Some setup → Tame v (settles_machine closed machine held setup v)
settles-tame v None machine held setup found is =
    let after : Setup = record setup { carrier = Some (Retransmitting machine) } in setup-tame v (to_setup held after v) held setup after found is refl refl (as_many v) (inr refl)
settles-tame v (Some reason) machine held setup found is = closes-tame v held (reason_of reason) found

carries_tame : (v : Channels) (carrier : Carrier) (pdu : List ℕ) (held : Held) (setup : Setup) → find (has_own held.own) v.held ≡ Some held → setup_of held.stage ≡ Some setup → Tame v (carries carrier pdu held setup v)
carries_tame v (Plain agreed waiting) pdu held setup found is = same-tame v
carries_tame v (Retransmitting machine) pdu held setup found is = let after : Ertm = machine_heard (read_by machine pdu) machine in settles-tame v after.closed after held setup found is

opened_tame : (v : Channels) (pdu : List ℕ) (held : Held) (setup : Setup) (carrier : Carrier) (own : Own) → setup.own ≡ own → find (has_own held.own) v.held ≡ Some held → setup_of held.stage ≡ Some setup
    → Tame v (cond (is_taken_with own carrier pdu) (carries carrier pdu (with_setup held (granted_setup setup)) (granted_setup setup) (opens_with own held setup v)) v)
opened_tame v pdu held setup carrier Unasked own_is found is = same-tame v
opened_tame v pdu held setup carrier (Asking request options) own_is found is =
    let u : Channels = grants held setup v in
    let w : Channels = carries carrier pdu (with_setup held (granted_setup setup)) (granted_setup setup) u in
    either (shows carrier pdu) v w v
    (both-tame v u w (grants_tame v held setup found is) (carries_tame u carrier pdu (with_setup held (granted_setup setup)) (granted_setup setup) (there (is_some setup.carrier)) (with-setup held.stage setup (granted_setup setup) is))) (same-tame v)
  where
    there : (b : Bool) → find (has_own held.own) (opens_if b held (to_setup held (granted_setup setup) (forgets (errands.Configuration held.own) v))).held ≡ Some (with_setup held (granted_setup setup))
    there true = with-found v held (granted_setup setup) found
    there false = with-found v held (granted_setup setup) found
opened_tame v pdu held setup carrier Granted own_is found is =
    let same : with_setup held (granted_setup setup) ≡ held = ap (λ (s : Stage). let h : Held = record held { stage = s } in h) (granted-same held.stage setup is own_is) in
    carries_tame v carrier pdu (with_setup held (granted_setup setup)) (granted_setup setup) (found ∙ ap Some (sym same)) (with-setup held.stage setup (granted_setup setup) is)

taken_with : (v : Channels) (carrier : Option Carrier) (pdu : List ℕ) (held : Held) (setup : Setup) → find (has_own held.own) v.held ≡ Some held → setup_of held.stage ≡ Some setup → Tame v (takes_with carrier pdu held setup v)
taken_with v None pdu held setup found is = same-tame v
taken_with v (Some carrier) pdu held setup found is = opened_tame v pdu held setup carrier setup.own refl found is

taken_on : (v : Channels) (setup : Option Setup) (pdu : List ℕ) (held : Held) → find (has_own held.own) v.held ≡ Some held → setup_of held.stage ≡ setup → Tame v (takes_on setup pdu held v)
taken_on v None pdu held found is = same-tame v
taken_on v (Some setup) pdu held found is = taken_with v setup.carrier pdu held setup found is

taken_held : (v : Channels) (own : ℕ) (held : Option Held) (pdu : List ℕ) → find (has_own own) v.held ≡ held → Tame v (takes_held held pdu v)
taken_held v own None pdu is = same-tame v
taken_held v own (Some held) pdu is = taken_on v (setup_of held.stage) pdu held (found-own own v held is) refl

pub takes-tame : (own : ℕ) (pdu : List ℕ) (v : Channels) → Tame v (takes own pdu v)
takes-tame own pdu v = taken_held v own (held_at own v) pdu refl

-- ---- what the host does by itself

left_at : (v : Channels) (held : Held) (stage : Stage) → held.stage ≡ stage → find (has_own held.own) v.held ≡ Some held → Tame v (disconnected_at stage held v)
left_at v held (Requested request) is found = closes-tame v held OwnClosed found
left_at v held (Connected peer setup) is found =
    asks-end-tame v (disconnected_at (Connected peer setup) held v) held (Leaving peer setup (new_request v)) (new_request v) v.queue found refl refl refl (as_many v) refl refl (inl refl) (inr (sym (ap for_options is)))
left_at v held (Leaving peer setup request) is found = same-tame v
left_at v held (Closing peer request checked) is found = same-tame v
left_at v held (Crossed peer request) is found = same-tame v

left_held : (v : Channels) (own : ℕ) (held : Option Held) → find (has_own own) v.held ≡ held → Tame v (disconnected_held held v)
left_held v own None is = same-tame v
left_held v own (Some held) is = left_at v held held.stage refl (found-own own v held is)

pub disconnects-tame : (own : ℕ) (v : Channels) → Tame v (disconnected own v)
disconnects-tame own v = left_held v own (held_at own v) refl

sent_own : (setup : Setup) (sdu : List ℕ) → (sends_setup setup sdu).own ≡ setup.own
sent_own setup sdu = by (is_open setup)
  where
    by : (b : Bool) → (let after : Setup = record setup { carrier = option_map (λ carrier. carrier_with carrier sdu) setup.carrier } in (cond b after setup).own ≡ setup.own)
    by true = refl
    by false = refl

sent_on : (v : Channels) (setup : Option Setup) (sdu : List ℕ) (held : Held) → find (has_own held.own) v.held ≡ Some held → setup_of held.stage ≡ setup → Tame v (sends_on setup sdu held v)
sent_on v None sdu held found is = same-tame v
sent_on v (Some setup) sdu held found is = setup-tame v (to_setup held (sends_setup setup sdu) v) held setup (sends_setup setup sdu) found is refl refl (as_many v) (inr (ap own_request (sent_own setup sdu)))

sent_held : (v : Channels) (own : ℕ) (held : Option Held) (sdu : List ℕ) → find (has_own own) v.held ≡ held → Tame v (sends_held held sdu v)
sent_held v own None sdu is = same-tame v
sent_held v own (Some held) sdu is = sent_on v (setup_of held.stage) sdu held (found-own own v held is) refl

pub sends-tame : (own : ℕ) (sdu : List ℕ) (v : Channels) → Tame v (sends own sdu v)
sends-tame own sdu v = sent_held v own (held_at own v) sdu refl
